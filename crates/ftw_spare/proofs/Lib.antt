pub mod Filling
pub mod BlankBlocks
