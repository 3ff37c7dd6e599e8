use Rattle.epc_query.specs.Kinds.{book_by}
use Rattle.bearoff_c.proofs.ByRank.{SaysTo}
use Rattle.bearoff_c.proofs.questions.put_by_rank.Given as goal

-- what was told so far
abbrev pub invariant-loop-index : goal.invariant-loop-index
invariant-loop-index g l = SaysTo l.index l.first l.items (g.Q.Question.says (book_by l.opened))
