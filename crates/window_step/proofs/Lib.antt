pub mod Comparing
pub mod Compares
pub mod Judging
pub mod Releasing
