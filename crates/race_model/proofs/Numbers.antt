-- Numbers and lists.
pub mod Tests
pub mod Sums
pub mod Members
pub mod OrderedLists
pub mod LowestTerms
