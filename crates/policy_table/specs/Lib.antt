pub mod PolicyState
pub mod Answers
