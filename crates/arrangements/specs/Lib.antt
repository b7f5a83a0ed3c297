pub mod Arrangements
pub mod Theorems
pub mod Inner
