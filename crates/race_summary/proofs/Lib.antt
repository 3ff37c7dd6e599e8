pub mod Printed
pub mod Waiting
pub mod Joined
