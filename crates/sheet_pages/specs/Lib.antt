pub mod Pages
pub mod Call
pub mod Inside
pub mod Laws
pub mod Theorems
