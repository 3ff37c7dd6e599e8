pub mod AllRecords
pub mod BuiltBytes
pub mod BuiltRecords
pub mod KeptRecords
pub mod KeptShares
pub mod UsualVersion
pub mod NextBoardRecord
pub mod BuiltBoards
