pub mod Loads
pub mod Lashes
pub mod Ends
pub mod Posts
pub mod Forces
pub mod Reported
pub mod Theorems
pub mod Inner
