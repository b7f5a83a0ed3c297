pub mod SideWalls
pub mod Theorems
pub mod Inner
