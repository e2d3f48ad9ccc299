pub mod Piles
pub mod Calls
pub mod Serving
