pub mod Names
pub mod Lengths
pub mod Steps
pub mod Listing
pub mod Walked
pub mod Examples
