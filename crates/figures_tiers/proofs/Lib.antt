-- Loads and weights from the top tier down.
pub mod LoadLaws
