pub mod Forms
pub mod FirstUnsound
pub mod Instructions
pub mod Starts
pub mod Turns
