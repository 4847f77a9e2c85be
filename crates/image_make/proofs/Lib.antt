pub mod CallLines
pub mod Data
pub mod Fronts
pub mod Images
pub mod Readable
pub mod Sizes
pub mod Scripts
pub mod BlankImages
