pub mod Indexed
pub mod Steps
