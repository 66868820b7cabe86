pub mod Brought
pub mod Plain
pub mod Same
