-- By induction on the bytes: a line feed ends a piece, and any other byte belongs to the first
-- piece, or to the rest.
use Rattle.race_model.proofs.Replies.InputLines.{cut_of, one_cut, feed_more, byte_more, pieces_stay}
use Rattle.race_model.proofs.laws.replies.law_input_lines.Goals as goal

pub returns-clause-cut : goal.returns-clause-cut
returns-clause-cut c = cut_of

pub returns-clause-one : goal.returns-clause-one
returns-clause-one c = one_cut

pub returns-clause-feed : goal.returns-clause-feed
returns-clause-feed c = feed_more

pub returns-clause-other : goal.returns-clause-other
returns-clause-other c = byte_more

pub returns-clause-more : goal.returns-clause-more
returns-clause-more c = pieces_stay
