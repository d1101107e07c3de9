pub mod List
pub mod Same
pub mod Valid
pub mod Level
pub mod Parts
pub mod Names
pub mod Laws
