pub mod Both
pub mod Insns
pub mod MethodNames
pub mod Parameters
