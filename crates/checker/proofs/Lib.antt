-- The laws that the proofs of the code cite, one for each way through a function, and the theorems on forms that read.
pub mod RecordLaws
pub mod ReadLaws
pub mod WalkAlong
pub mod GraphReads
pub mod AnswerLaws
pub mod AnswerPaths
pub mod CertifyLawsVerdict
pub mod CertifyLawsCheck
pub mod CertifyLawsHandOut
-- The theorems of the checker: what a verdict of 0 says, soundness, the marked rows, the answer form written and read back, completeness, the hand-out.
pub mod Accepted
pub mod Ascending
pub mod Soundness
pub mod Rows
pub mod Encoding
pub mod Inside
pub mod MarksAgree
pub mod Sorted
pub mod PriceNumber
pub mod Completeness
pub mod HandedOut
pub mod Determined
