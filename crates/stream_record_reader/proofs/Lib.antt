pub mod Known
pub mod Run
pub mod Taken
