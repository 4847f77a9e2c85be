pub mod Searches
pub mod Units
pub mod Merges
pub mod BufferAnswers
