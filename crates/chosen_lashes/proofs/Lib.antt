-- What the functions' proofs rest on.
pub mod Picked
pub mod Held
