-- One lash, and the loops over an end's lashes.
pub mod Tallies
pub mod LashLoops
