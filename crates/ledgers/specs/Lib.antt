pub mod Rows
pub mod Stamps
pub mod Ledgers
pub mod Machine
pub mod Struck
pub mod Laws
