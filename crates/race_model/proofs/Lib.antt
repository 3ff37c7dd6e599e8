-- The proofs of the laws in src/laws. The lemmas that a law is stand in WhyLaws, or in a file of
-- its own, laws/SUBJECT/law_NAME/Answers.antt; the lemmas are here by subject, the lowest first.
-- The page docs/definitions.md leads from the headline to the modules that its proof rests on.
pub mod Numbers
pub mod Dice
pub mod Positions
pub mod Plays
pub mod Ranks
pub mod Strategies
pub mod Books
pub mod RightFiles
pub mod FirstFaults
pub mod Replies
pub mod WhyLaws
