pub mod WordCounts
pub mod Spelled
pub mod SameNames
pub mod TextsBack
