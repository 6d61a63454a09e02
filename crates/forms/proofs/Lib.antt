-- The laws that the proofs of the code cite, and facts of a form that reads.
pub mod LayoutLaws
pub mod Filling
pub mod Scan
pub mod ThenLaws
pub mod ResultLaws
pub mod PartLaws
pub mod MarkLaws
pub mod ArcLaws
pub mod ArcNumbers
pub mod WalkLaws
pub mod RightLaws
pub mod GraphFacts
pub mod GraphRange
pub mod RoleLaws
pub mod Lookup
