pub mod Asking
pub mod Ready
pub mod Replays
