pub mod Lists
pub mod Samples
