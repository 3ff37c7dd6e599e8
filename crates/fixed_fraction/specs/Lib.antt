pub mod Board
pub mod Ratios
pub mod Totals
