-- Right files and the local equations.
pub mod Right
pub mod RightFacts
pub mod Bounded
pub mod Recorded
pub mod Built
pub mod Places
pub mod ToldRecords
pub mod Fields
pub mod CountParts
pub mod SameBytes
pub mod ToldShares
pub mod SameNumbers
pub mod Kinds
