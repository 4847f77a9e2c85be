pub mod Readings
pub mod Mounts
pub mod Writes
