pub mod First
pub mod Answer
