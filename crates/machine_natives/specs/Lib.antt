pub mod Calls
pub mod Closing
pub mod Responses
pub mod Throwables
