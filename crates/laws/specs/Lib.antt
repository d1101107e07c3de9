pub mod Checks
pub mod First
pub mod Lists
pub mod Outcome
pub mod Laws
