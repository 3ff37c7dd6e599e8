-- Ranks, by counts over the box of all boards.
pub mod BoxCounts
pub mod RankCounts
pub mod RankOrder
pub mod LevelTable
pub mod PositionTotals
pub mod BestPlays
