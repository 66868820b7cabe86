pub mod Owned
pub mod Turns
pub mod AtWork
pub mod Worked
pub mod Refused
pub mod Restored
