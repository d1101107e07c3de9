pub mod Reached
pub mod Stretches
