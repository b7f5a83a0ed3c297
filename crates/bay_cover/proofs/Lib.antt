-- Theorems for the crates above.
pub mod Covers
-- What the functions' proofs rest on.
mod Thirds
