pub mod Marks
pub mod Report
