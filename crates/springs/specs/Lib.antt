pub mod Equations
pub mod Theorems
pub mod Inner
