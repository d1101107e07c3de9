pub mod Engine
pub mod First
pub mod Laws
