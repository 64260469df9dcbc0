pub mod Pieces
pub mod Turns
pub mod Accounts
pub mod Pictures
