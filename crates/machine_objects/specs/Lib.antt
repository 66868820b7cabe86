pub mod Taking
pub mod Following
pub mod Fields
pub mod Types
pub mod Switching
pub mod Making
