pub mod Table
pub mod Linear
pub mod AllBytes
pub mod Matrices
pub mod Blocks
pub mod Schedule
