pub mod Newton
pub mod Spread
pub mod Trials
