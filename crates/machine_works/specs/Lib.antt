pub mod Finishing
pub mod Sound
