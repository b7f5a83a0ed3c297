-- Theorems for the crates above.
pub mod Answers
pub mod Rows
