-- The laws that the proofs of the code cite: bare loads first, then the table of paths, then both as links of a graph. Which link stands at each slot is cited by those who lay the network too.
mod PeelLaws
mod PeelLawsTable
pub mod SlotKinds
mod PeelLawsLinks
mod PeelLawsPath
mod PeelLawsAll
mod PeelLawsOne
