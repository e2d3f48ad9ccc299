pub mod Performing
pub mod Readiness
