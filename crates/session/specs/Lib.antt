pub mod Bench
pub mod Claims
