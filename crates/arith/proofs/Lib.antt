-- The algebra: over any ordered ring, over ℤ, over fractions and over ℚ. Algebra says how to use it.
pub mod Algebra
pub mod Polynomials
pub mod Rings
pub mod Integers
pub mod IntegerTerms
pub mod IntegerOrder
pub mod IntegerOmega
pub mod FractionLaws
pub mod Rationals
pub mod RationalTerms
pub mod RationalOrder
pub mod Signs
pub mod FractionsInRationals
pub mod OrderedField
pub mod Sums
-- Bytes and rounding: laws of the definitions in specs/, and of what the functions compute.
pub mod Arrays
pub mod ByteLaws
pub mod Parts
pub mod Sizes
pub mod SignedWords
pub mod Quotients
pub mod RationalRounding
pub mod RoundingLaws
pub mod WholeLaws
