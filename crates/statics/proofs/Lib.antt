-- Lashes: length, stiffness, forces.
pub mod EachLash
pub mod LashLength
pub mod LashForces
pub mod LashStiffness
-- The solver's inputs and what they stand for.
pub mod WholeNumbers
pub mod LevelStiffness
pub mod LevelLoads
pub mod LoadsGrow
pub mod EndChain
pub mod Inputs
pub mod Turned
pub mod Relief
pub mod OneSolution
pub mod RuleNumbers
-- Bounds of the exact forces.
pub mod Within
pub mod LoadBounds
pub mod LashBounds
pub mod Bounds
-- The figures report the exact forces.
pub mod Errors
pub mod Scales
pub mod Pads
pub mod Along
pub mod Covers
pub mod LashFigures
pub mod ShiftErrors
pub mod Verticals
pub mod Weights
pub mod Arms
pub mod Moment
pub mod SameShifts
pub mod Racking
pub mod PostSums
pub mod PostFigures
pub mod EndReported
pub mod Margins
-- From the promise to the figures.
pub mod Figured
-- What a reader is told.
pub mod Theorems
-- Arrays that loops fill, and their sections.
pub mod Arrays
pub mod Sections
