pub mod Tables
pub mod Chains
