pub mod Words
pub mod Decimals
pub mod Texts
pub mod Parts
pub mod Thousandths
pub mod Held
pub mod AcceptedQueries
