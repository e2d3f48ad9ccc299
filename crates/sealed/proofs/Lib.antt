pub mod Compared
pub mod Laid
pub mod Lawful
pub mod Staying
