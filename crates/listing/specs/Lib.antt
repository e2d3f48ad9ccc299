pub mod Lengths
pub mod Listing
pub mod Text
