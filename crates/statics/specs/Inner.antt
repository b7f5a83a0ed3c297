pub mod WholeNumbers
pub mod Computed
pub mod InArrays
