-- What the functions' proofs rest on, and the theorems.
pub mod Bytes
pub mod Refusals
pub mod ReadBack
pub mod Numbers
