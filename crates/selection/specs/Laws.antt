pub mod Counted
pub mod Engines
pub mod Stream
pub mod Cut
pub mod Exit
