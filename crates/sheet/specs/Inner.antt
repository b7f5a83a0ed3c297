pub mod Limits
pub mod Changed
pub mod Blank
