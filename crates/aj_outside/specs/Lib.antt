pub mod Counts
pub mod Files
pub mod FileLaws
pub mod CountLaws
pub mod Memory
pub mod Stored
pub mod Edge
