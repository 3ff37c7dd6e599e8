pub mod Chains
pub mod Best
pub mod DicePlaces
pub mod Rolls
pub mod Knowing
pub mod RecordedPlays
pub mod FirstRefused
