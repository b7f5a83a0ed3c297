-- What is stored behind what, and the answer's bytes put together.
pub mod AnswerLaws
