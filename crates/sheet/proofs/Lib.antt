pub mod Results
-- Theorems for the reader and for the crates above.
pub mod Limits
pub mod TakenSheets
pub mod FourALevel
pub mod SheetLimits
pub mod CallRefusals
pub mod Routes
pub mod FirstBytes
pub mod OtherTiers
pub mod Numbers
pub mod RoundTrip
pub mod WrittenBytes
-- What they and the decoder's proofs rest on.
pub mod Rows
pub mod Items
pub mod Clear
pub mod Bools
pub mod SameBytes
mod ReadBack
mod Examples
