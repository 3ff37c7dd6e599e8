pub mod Cells
pub mod TableCounts
pub mod Filling
pub mod Reading
pub mod Chains
pub mod Counting
pub mod LevelCounts
