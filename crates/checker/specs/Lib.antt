pub mod Check
pub mod Accepted
pub mod Encode
pub mod Acceptable
pub mod HandedOut
pub mod Rows
pub mod Tallies
