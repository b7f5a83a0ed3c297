-- Laws of levels that nothing holds.
pub mod Unheld
