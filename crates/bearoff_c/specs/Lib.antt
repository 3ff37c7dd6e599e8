pub mod Refusals
pub mod StatusTexts
pub mod Longs
pub mod ChoiceLists
pub mod FileBooks
pub mod Opening
pub mod Told
pub mod Notations
