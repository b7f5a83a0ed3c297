-- What the tests of the order rest on.
pub mod Ranks
