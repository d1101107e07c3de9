pub mod After
pub mod Counts
pub mod Refusals
pub mod Streams
