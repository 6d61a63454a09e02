pub mod Limits
pub mod Depth
pub mod Demands
