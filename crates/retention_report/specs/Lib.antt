pub mod Explained
pub mod Pictured
pub mod Sources
pub mod Drawn
