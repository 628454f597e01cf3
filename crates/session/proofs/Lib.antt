pub mod Loads
pub mod OnLists
