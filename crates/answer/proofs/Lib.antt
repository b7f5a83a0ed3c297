-- Theorems for the reader and for the crates above.
pub mod Table
pub mod SafeLoads
pub mod Turned
pub mod Relief
pub mod FleetStandard
pub mod Solutions
pub mod TwoLimits
pub mod Accepted
pub mod OnePull
pub mod ReadBack
pub mod Longest
pub mod Numbers
pub mod Consequences
pub mod Named
pub mod Theorems
