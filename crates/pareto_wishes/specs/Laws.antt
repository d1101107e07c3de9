pub mod Joined
pub mod Pairs
