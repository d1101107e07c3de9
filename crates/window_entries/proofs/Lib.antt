pub mod Packed
pub mod Releasing
