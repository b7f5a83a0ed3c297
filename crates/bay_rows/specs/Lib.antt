pub mod Bay
pub mod Refusals
