pub mod Sums
pub mod Exposure
