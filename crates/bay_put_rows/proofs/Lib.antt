-- Theorems for the crates above.
pub mod Steps
