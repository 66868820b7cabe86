pub mod Machines
pub mod Taken
pub mod Reached
