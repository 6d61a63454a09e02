pub mod Storing
pub mod Digits
pub mod Counting
pub mod Decimal
pub mod Lengths
pub mod Writing
