pub mod Messages
pub mod Spellings
pub mod Streams
