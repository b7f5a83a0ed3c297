pub mod AccelerationsIn
pub mod Called
pub mod RefusalIn
pub mod VerdictIn
