pub mod Spelled
pub mod Reading
pub mod ModifiedUtf8
pub mod Hierarchy
pub mod Names
pub mod Descriptors
pub mod Faults
pub mod Slots
