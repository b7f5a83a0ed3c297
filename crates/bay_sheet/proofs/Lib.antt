-- What the functions' proofs rest on.
mod Codes
mod Tiers
