-- What the functions' proofs rest on.
pub mod Named
pub mod Refusals
pub mod Numbers
pub mod Theorems
