pub mod Lashes
