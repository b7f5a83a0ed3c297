pub mod Lines
pub mod Replies
pub mod Theorems
pub mod Inner
