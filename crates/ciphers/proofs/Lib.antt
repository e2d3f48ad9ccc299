pub mod Untweaked
pub mod Rows
