pub mod Patterns
pub mod Examples
