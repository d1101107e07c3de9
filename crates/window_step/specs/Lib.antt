pub mod Work
pub mod Scans
pub mod Reads
pub mod Laws
