pub mod Bounds
pub mod Signs
