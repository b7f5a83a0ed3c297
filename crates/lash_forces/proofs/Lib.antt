pub mod LashLaws
