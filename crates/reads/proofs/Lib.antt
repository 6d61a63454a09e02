-- The laws of the table of reads, one for each way through a function.
pub mod TableLaws
pub mod TableRows
pub mod OverlapLaws
pub mod DropLaws
pub mod LongestLaws
pub mod JoinLaws
pub mod JoinedRead
pub mod PrepareLaws
