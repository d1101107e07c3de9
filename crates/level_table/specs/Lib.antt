pub mod Table
pub mod Filled
pub mod Rule
pub mod Laws
