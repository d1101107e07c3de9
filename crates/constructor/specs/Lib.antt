pub mod Level
pub mod Side
pub mod Valid
pub mod Laws
