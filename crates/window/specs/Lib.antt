pub mod Engine
pub mod Laws
