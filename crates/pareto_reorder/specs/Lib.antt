pub mod Reordered
pub mod Laws
pub mod Theorems
