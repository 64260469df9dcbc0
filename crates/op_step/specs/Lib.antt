pub mod Meter
pub mod Chunk
pub mod Told
