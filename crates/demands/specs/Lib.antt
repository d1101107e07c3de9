pub mod Calls
pub mod Refusals
pub mod Laws
pub mod Demand1
pub mod Demand2
pub mod Demand3
