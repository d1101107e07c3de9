pub mod Selection
pub mod Stream
pub mod Laws
