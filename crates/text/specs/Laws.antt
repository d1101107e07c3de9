pub mod Text
pub mod Sign
pub mod Characters
pub mod Examples
