pub mod Aes
pub mod Forks
pub mod Kiasu
pub mod Tweaks
pub mod Laws
pub mod Runs
pub mod Subkeys
pub mod Rounds
