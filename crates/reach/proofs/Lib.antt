-- The laws that the proofs of the code cite: a form by numbers, then the passes over the arcs, then what lies on no path.
pub mod ReachLaws
mod ReachLawsPass
pub mod ReachLawsLacking
