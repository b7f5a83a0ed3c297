-- Laws of numbers within bounds.
pub mod Laws
