pub mod Outcome
pub mod Observation
pub mod Equivalent
pub mod Follows
pub mod Alike
pub mod Laws
