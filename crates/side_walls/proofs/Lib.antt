-- What the functions' proofs rest on, and the theorems.
pub mod Exact
pub mod Loops
pub mod Verdicts
pub mod Most
