pub mod Rounding
pub mod Roots
pub mod Sizes
