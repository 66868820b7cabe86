pub mod Turns
pub mod Performed
pub mod Replied
pub mod Sparing
