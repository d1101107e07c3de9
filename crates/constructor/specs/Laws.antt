pub mod Greatest
pub mod Papers
pub mod Valid
pub mod Target
pub mod Side
