-- Strategies over all sequences of throws, the horizon, and least strategies.
pub mod Histories
pub mod Totals
pub mod Spreads
pub mod Horizons
pub mod LeastExists
pub mod SampleCounts
pub mod SampleLeast
