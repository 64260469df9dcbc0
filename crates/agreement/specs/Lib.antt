pub mod RemainsCode
pub mod Agreement
pub mod Gathering
pub mod Trimmed
pub mod Laid
pub mod Meeting
pub mod Joining
