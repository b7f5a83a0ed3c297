-- What the functions' proofs rest on.
pub mod Enough
pub mod Roots
pub mod Halving
pub mod Theorems
