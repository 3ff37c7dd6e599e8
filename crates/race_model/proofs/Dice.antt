-- Dice, throws and rolls.
pub mod Faces
pub mod Throws
pub mod RollSums
