pub mod ListedFlash
pub mod Told
pub mod EngineWriter
pub mod Play
