-- The figures of an end put together.
pub mod Corners
pub mod EndLaws
