pub mod Determined
