pub mod Runs
pub mod TokenLaws
pub mod FormLaws
