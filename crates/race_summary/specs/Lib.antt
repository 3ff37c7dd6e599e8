pub mod Sides
pub mod Summaries
pub mod Printed
pub mod Values
pub mod Shown
pub mod Words
