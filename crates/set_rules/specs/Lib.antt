pub mod Seen
pub mod Chain
pub mod RoomTotals
