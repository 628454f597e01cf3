pub mod Taken
pub mod Loop
pub mod Circle
pub mod Cut
pub mod Alone
pub mod Unread
