pub mod Slots
pub mod Peel
