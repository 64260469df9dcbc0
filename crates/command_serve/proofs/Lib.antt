pub mod Served
mod Told
