pub mod Maps
pub mod Numbers
pub mod Sides
pub mod Inverses
