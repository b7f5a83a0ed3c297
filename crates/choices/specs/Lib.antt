pub mod Choices
pub mod Theorems
