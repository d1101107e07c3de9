pub mod Looks
pub mod Listing
