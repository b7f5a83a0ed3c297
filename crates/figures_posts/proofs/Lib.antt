-- Signed words, and the sizes of what a level's figures are made of.
pub mod Words
pub mod Shifts
pub mod LevelLaws
