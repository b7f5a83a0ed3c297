pub mod Forecasts
pub mod Theorems
pub mod Inner
