pub mod Held
pub mod Valid
pub mod Level
pub mod Parts
pub mod Counted
pub mod Names
pub mod Layered
