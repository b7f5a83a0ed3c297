-- What the functions' proofs rest on, and what they say of findings.
pub mod NoneFound
