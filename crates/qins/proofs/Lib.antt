pub mod Formed
pub mod Listed
pub mod OneWord
