-- The laws that the proofs of the code cite: growing totals, slacks, the table of reads, its counts, and the bound as the sum of its parts.
pub mod GrowthLaws
pub mod CertifyLawsSlack
pub mod CertifyLaws
pub mod CertifyLawsBound
pub mod CertifyLawsTable
pub mod CertifyLawsCount
pub mod CertifyLawsTotal
