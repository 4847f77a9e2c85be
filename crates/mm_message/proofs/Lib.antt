pub mod Parts
pub mod Names
pub mod Numbers
pub mod BodySizes
pub mod Spelled
pub mod Read
pub mod Streams
