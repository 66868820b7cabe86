pub mod Made
pub mod Nulls
pub mod Listed
pub mod Arrays
pub mod Output
pub mod Opened
pub mod Types
pub mod Named
