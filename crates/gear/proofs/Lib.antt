-- The theorems, and what they rest on.
pub mod Section
pub mod Subsets
pub mod OwnBytes
pub mod ChoiceInBytes
mod Examples
