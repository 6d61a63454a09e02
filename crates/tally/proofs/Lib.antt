-- The laws that the proofs of the code cite: which reads a path holds, and what walking along it adds.
pub mod ReadsMetLaws
pub mod PathWalkLaws
