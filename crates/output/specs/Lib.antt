pub mod Puts
pub mod Prints
pub mod Writes
pub mod Laws
