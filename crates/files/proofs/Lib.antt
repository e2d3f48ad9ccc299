pub mod Verdicts
pub mod Accepted
pub mod Slots
