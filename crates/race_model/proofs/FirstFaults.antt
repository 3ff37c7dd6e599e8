-- First faults of files and of headers.
pub mod Questions
pub mod HeaderFacts
pub mod Decisions
pub mod InRecord
