pub mod Ends
pub mod Gone
pub mod Known
pub mod Links
pub mod Puts
pub mod Slashes
pub mod Stays
