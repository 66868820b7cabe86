pub mod Ran
pub mod Working
pub mod Carrying
