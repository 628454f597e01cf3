pub mod Reversible
pub mod Samples
pub mod Lists
pub mod Counts
