pub mod Gap
pub mod Ceil
pub mod Local
