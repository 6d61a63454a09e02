pub mod Growth
pub mod Certify
