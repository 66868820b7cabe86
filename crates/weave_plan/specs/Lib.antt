pub mod Plan
pub mod Faults
pub mod Worlds
pub mod Parsed
pub mod Fit
pub mod Utf8
