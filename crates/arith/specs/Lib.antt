pub mod Fractions
pub mod Wholes
pub mod Lists
pub mod Bytes
pub mod Theorems
pub mod Inner
