pub mod Lists
pub mod Members
pub mod Ends
pub mod Order
pub mod Invariant
pub mod Marks
pub mod Agree
