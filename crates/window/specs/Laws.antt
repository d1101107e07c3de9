pub mod Accepted
pub mod Marks
