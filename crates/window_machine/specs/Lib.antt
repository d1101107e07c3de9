pub mod Machine
pub mod Order
pub mod Laws
