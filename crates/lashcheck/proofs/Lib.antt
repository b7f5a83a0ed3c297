-- Theorems for the reader.
pub mod Theorems
-- What they and the proofs of the functions rest on.
mod FirstBytes
mod EmptyInput
mod Text
mod Outcomes
