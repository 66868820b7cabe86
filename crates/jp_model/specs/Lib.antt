pub mod Aspects
pub mod JoinPoints
pub mod JoinPointMachine
pub mod AspectText
pub mod Input
pub mod Headline
pub mod Example
