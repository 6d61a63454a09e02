pub mod Rounding
pub mod WholePart
pub mod DemandLaws
pub mod Promised
