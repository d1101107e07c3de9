pub mod Values
pub mod Report
pub mod Examples
pub mod Cut
