-- Theorems for the reader.
pub mod Exact
pub mod Reported
pub mod OfBytes
pub mod Runs
pub mod NotIncluded
pub mod Theorems
