pub mod Belonging
pub mod Closed
