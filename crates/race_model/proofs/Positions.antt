-- Positions and their text.
pub mod Points
pub mod OneText
