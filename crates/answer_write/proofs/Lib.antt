pub mod Stores
mod Figures
