-- Theorems for the reader and for the crates above.
pub mod Theorems
pub mod Numbers
pub mod Copies
pub mod Named
-- What the functions' proofs rest on.
mod Whole
