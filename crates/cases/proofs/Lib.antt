-- What the functions' proofs rest on.
mod MarkLaws
mod FieldLaws
mod CaseLaws
