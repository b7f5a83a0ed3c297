-- What the functions' proofs rest on; the laws are for the crates above too.
pub mod FindingLaws
mod EndPut
