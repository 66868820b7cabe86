pub mod Library
pub mod Heads
pub mod Rules
pub mod Rows
