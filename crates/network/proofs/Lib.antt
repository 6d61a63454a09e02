-- The laws of sums and stores, which those who lay a network cite too, and the laws that the proofs of the code cite.
pub mod NetworkLaws
mod NetworkLawsSearch
mod NetworkLawsSettle
mod NetworkLawsRaise
mod NetworkLawsPush
mod NetworkLawsCarry
pub mod NetworkLawsStand
