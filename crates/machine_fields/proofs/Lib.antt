pub mod Places
pub mod Walks
pub mod TypeParts
pub mod NewOnes
pub mod FirstHeld
