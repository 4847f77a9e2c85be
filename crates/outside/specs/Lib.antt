pub mod Faults
pub mod Written
pub mod MemSource
pub mod MemSink
pub mod Stream
