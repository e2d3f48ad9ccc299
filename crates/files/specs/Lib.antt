pub mod Checks
pub mod Faults
pub mod Layout
pub mod Left
pub mod Records
pub mod Sound
pub mod Verdict
