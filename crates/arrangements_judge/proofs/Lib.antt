-- What the functions' proofs rest on.
pub mod EndsJudged
