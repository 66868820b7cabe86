pub mod Loop
pub mod PoolLoop
