pub mod Pages
pub mod Places
pub mod Turns
pub mod Left
pub mod Examples
