mod Rounding
mod Scales
mod Factor
mod Exact
mod Ranges
mod Formulas
mod Outcomes
mod Joints
pub mod Limits
