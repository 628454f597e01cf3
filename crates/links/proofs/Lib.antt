pub mod Search
pub mod Answers
pub mod Decides
pub mod OneNode
pub mod Paired
pub mod NodeByNode
