pub mod Previews
pub mod Theorems
pub mod Inner
