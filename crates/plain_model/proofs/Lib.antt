pub mod RunLemmas
pub mod CountLemmas
pub mod TotalLemmas
