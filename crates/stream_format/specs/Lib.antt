pub mod Kinds
pub mod RecordKind
pub mod ReadAnswer
pub mod Read
pub mod Midway
pub mod Write
pub mod Laws
