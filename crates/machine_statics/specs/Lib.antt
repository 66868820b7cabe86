pub mod Triggers
pub mod Tops
pub mod StaticFields
pub mod Announcing
pub mod Returns
