-- The theorems, and what they rest on.
pub mod Ranked
pub mod Bits
pub mod Sized
pub mod InOrder
pub mod Once
pub mod Those
pub mod AmongEight
pub mod Chosen
-- What the table of the code is.
pub mod Lines
