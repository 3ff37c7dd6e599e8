pub mod AddedShares
pub mod ByRank
pub mod KnownRight
pub mod FaultStatuses
