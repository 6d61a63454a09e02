pub mod ReadTable
