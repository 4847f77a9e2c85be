pub mod Replace
pub mod Compacted
pub mod Laws
