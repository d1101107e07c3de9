pub mod Left
pub mod Rules
pub mod Short
