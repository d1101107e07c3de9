pub mod Rule
pub mod Part
pub mod Filled
pub mod Table
