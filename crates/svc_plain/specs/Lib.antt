pub mod Above
pub mod Stands
pub mod Written
