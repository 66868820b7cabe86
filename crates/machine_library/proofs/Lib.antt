pub mod Belonging
pub mod Returned
