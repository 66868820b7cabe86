pub mod Numbered
pub mod KeyTargets
pub mod ByNames
pub mod Formed
pub mod Finding
pub mod Handled
pub mod TypeKinds
