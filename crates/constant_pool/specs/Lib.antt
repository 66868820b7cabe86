pub mod Edit
pub mod Places
pub mod Answers
pub mod Laws
pub mod Meaning
