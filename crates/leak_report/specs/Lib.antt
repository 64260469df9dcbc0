pub mod Lines
pub mod Lives
pub mod Told
pub mod Report
pub mod Text
pub mod HolderPass
