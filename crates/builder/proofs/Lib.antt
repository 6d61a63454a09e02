-- The laws that the builder's proofs cite, and its theorems.
pub mod Coverable
pub mod FinishLaws
pub mod FinishLawsFlow
pub mod FinishLawsStages
pub mod Certificate
pub mod FinishLawsEnd
pub mod Lowest
pub mod Determined
pub mod FinishLawsPromise
