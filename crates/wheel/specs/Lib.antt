pub mod Wheel
pub mod Samples
pub mod Claims
