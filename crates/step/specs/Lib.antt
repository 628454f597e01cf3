pub mod Table
pub mod View
pub mod Same
pub mod Sizes
pub mod Step
pub mod Nodes
pub mod Claims
