pub mod Worlds
pub mod Lists
pub mod Elements
pub mod Filling
pub mod Descriptors
pub mod Fieldless
pub mod Taken
pub mod Asked
