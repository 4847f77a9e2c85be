pub mod Steps
pub mod Told
pub mod OpenedGates
pub mod Makes
