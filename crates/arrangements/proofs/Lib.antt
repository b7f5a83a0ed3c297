-- What the functions' proofs rest on, and the theorems.
pub mod Bytes
pub mod Refusals
pub mod Named
pub mod Numbers
pub mod Standing
pub mod Theorems
