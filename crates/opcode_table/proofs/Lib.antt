pub mod Keys
pub mod Vectors
