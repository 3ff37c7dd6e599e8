pub mod Faces
pub mod MoveLists
pub mod RankOrder
pub mod Texts
