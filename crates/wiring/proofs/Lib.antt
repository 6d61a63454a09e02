-- The laws that the proofs of the code cite, and the shape of the network once it is laid, which the builder cites.
pub mod SlotLaws
mod LayLaws
pub mod LayLawsLoad
mod LayLawsBalance
pub mod Shape
