-- Lines of queries and their replies.
pub mod Lines
pub mod InputLines
pub mod OneReply
pub mod EqualReplies
pub mod Multiples
pub mod Kinds
pub mod Same
