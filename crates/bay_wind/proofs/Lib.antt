-- Theorems for the crates above.
pub mod Sums
pub mod Fitting
-- What the functions' proofs rest on.
mod Sides
