mod Masses
pub mod Outcomes
pub mod Falling
pub mod Rows
