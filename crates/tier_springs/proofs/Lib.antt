-- The springs of the tiers.
pub mod SpringLaws
