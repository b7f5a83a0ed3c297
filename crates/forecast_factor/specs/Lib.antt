pub mod Factor
pub mod Theorems
pub mod Inner
