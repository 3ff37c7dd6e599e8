pub mod Telling
pub mod Reads
pub mod SourceStays
pub mod TableStays
