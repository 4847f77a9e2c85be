pub mod Covers
pub mod Taken
