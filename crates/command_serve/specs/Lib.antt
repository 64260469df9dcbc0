pub mod Exits
pub mod Serve
pub mod Replay
pub mod Script
pub mod Whatif
pub mod Explain
pub mod Picture
