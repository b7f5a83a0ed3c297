pub mod Sides
pub mod Theorems
pub mod Inner
