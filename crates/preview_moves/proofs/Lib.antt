-- Theorems for the reader and for the crates above.
pub mod Copies
pub mod Order
-- What the functions' proofs rest on.
pub mod Moves
-- What follows from what is said of a preview.
pub mod TwoNumbers
