-- The loop from the top level down.
pub mod Descent
