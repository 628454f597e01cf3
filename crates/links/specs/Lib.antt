pub mod Check
pub mod Claims
