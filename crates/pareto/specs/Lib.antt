pub mod Dominance
pub mod Best
pub mod Call
pub mod Checked
pub mod Refusals
pub mod Table
pub mod Laws
