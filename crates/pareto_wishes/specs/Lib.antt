pub mod Wishes
pub mod Laws
pub mod Theorems
