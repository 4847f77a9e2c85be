pub mod Pieces
pub mod StoresAfter
pub mod Answering
