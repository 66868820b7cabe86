pub mod Ended
pub mod Entered
pub mod Finished
pub mod Kept
pub mod Loaded
