-- Theorems for the reader and for the crates above.
pub mod Places
pub mod Readings
pub mod Numbers
