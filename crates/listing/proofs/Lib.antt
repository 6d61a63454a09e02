pub mod Vertices
pub mod Lengths
pub mod Accepted
pub mod PathLines
pub mod Writing
pub mod Longest
pub mod Inputs
pub mod Lowest
