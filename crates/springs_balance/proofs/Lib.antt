-- Laws of the forces and of the loop.
pub mod Forces
pub mod Loops
