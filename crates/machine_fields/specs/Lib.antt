pub mod Settings
pub mod Positions
pub mod Types
pub mod FieldLaws
pub mod ProgramLaws
pub mod NewObjects
pub mod Constants
