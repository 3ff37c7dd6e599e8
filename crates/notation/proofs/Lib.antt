pub mod Homes
pub mod Keys
pub mod Pieces
pub mod Tellings
pub mod One
pub mod Written
