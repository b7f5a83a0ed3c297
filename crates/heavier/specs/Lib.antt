pub mod Heavier
pub mod NotIncluded
pub mod Theorems
