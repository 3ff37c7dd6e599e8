pub mod Letters
pub mod Ids
pub mod Parts
pub mod Xgids
pub mod Sides
pub mod Readings
pub mod Written
