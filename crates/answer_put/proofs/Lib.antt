-- What the functions' proofs rest on; the entries and the puts are for the crates above too.
pub mod Entries
pub mod Puts
