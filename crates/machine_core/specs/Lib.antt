pub mod Taking
pub mod ClassForms
pub mod Sparing
