pub mod Format
pub mod Load
pub mod Save
pub mod Claims
