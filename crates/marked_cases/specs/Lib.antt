pub mod Question
pub mod Table
pub mod Proof
