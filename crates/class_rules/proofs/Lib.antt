pub mod Dimensions
pub mod FirstFailing
pub mod FormsAt
pub mod Listing
pub mod Marking
pub mod Numbered
pub mod Strays
