pub mod ConditionA
pub mod Rounded
pub mod Theorems
pub mod Inner
