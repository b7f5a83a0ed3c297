-- Laws of the loops.
pub mod Loops
