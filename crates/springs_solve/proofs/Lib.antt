-- Laws of the solver.
pub mod Laws
