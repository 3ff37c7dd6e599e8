-- Books: what a database says, apart from its bytes.
pub mod FromLocal
pub mod FromRight
pub mod Losses
pub mod Files
pub mod Endings
pub mod Boards
pub mod Bounded
pub mod Kinds
pub mod Further
pub mod Widths
pub mod OneBook
pub mod SameRanks
