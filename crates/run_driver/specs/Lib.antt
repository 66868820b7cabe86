pub mod Stepping
pub mod Reports
