pub mod Apart
pub mod Taken
pub mod Numbers
pub mod Blocks
pub mod Places
pub mod Laid
pub mod Spelled
