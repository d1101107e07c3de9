pub mod Crossed
pub mod Laws
