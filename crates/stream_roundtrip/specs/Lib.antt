pub mod Terms
pub mod Laws
pub mod Theorems
