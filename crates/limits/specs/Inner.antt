pub mod LowerOf
