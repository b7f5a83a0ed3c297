pub mod Tables
pub mod Judgements
pub mod Theorems
