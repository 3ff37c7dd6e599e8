pub mod Calls
pub mod Disks
pub mod Drafts
pub mod Paths
pub mod Puts
