pub mod Promise
pub mod Candidate
pub mod Balance
pub mod Elimination
pub mod Bound
