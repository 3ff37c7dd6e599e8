pub mod TwoParts
pub mod Fractions
pub mod Shares
pub mod RollSums
pub mod CommonFactors
pub mod WideNumbers
