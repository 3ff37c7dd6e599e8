use Rattle.std.proofs.Common.{◌+◌, w16, get_or, ap, ◌∙◌, arith}
use Rattle.std.proofs.Math.Facts.{Fits-of_lt}
use Rattle.race_model.specs.Prelude.{first_of}
use Rattle.ranking.proofs.Reading.{IsNext, IsRanked, read_next, rank_read, later-most}
use Rattle.ranking.proofs.rank_table.RankTable.rank.Goals as goal

-- the next point is read
next : (c : goal.After-used-later) →
    IsNext c.args.position.now c.loop-point.point c.loop-point.checkers_left c.loop-point.pips_left
    c.loop-point.later c.count-count.result
next c =
    read_next _ _ _ _ _ _ c.pips-pips.ensures.position c.loop-point.auto.point
    c.loop-point-test.true c.count-count.ensures.value c.loop-point.invariant

pub overflow_add-later : goal.overflow_add-later
overflow_add-later c =
    Fits-of_lt {w = w16}
    (omega (
      arith,
      (next c).next.added,
      c.used-later.ensures,
      later-most _ c.pips-pips.ensures.position,
    ))

pub loop-point-preserved : goal.loop-point-preserved
loop-point-preserved c = rw c.used-later.ensures (next c).next

-- all points are read
ranked : (c : goal.After-result-1) →
    IsRanked c.args.position.now (get_or c.args.self.now.starts (c.from.result + 1) 0)
    c.loop-point.later
ranked c =
    rank_read _ _ _ _ _ _ c.pips-pips.ensures.position (omega arith) c.loop-point.invariant
    (c.requires.summed (c.from.result + 1) (omega arith)
    ∙ ap (λ m. first_of (m + 1)) (c.from.ensures ∙ c.pips-pips.ensures.value))

pub overflow_sub-result : goal.overflow_sub-result
overflow_sub-result c = omega (arith, (ranked c).inside)

pub overflow_sub-result-2 : goal.overflow_sub-result-2
overflow_sub-result-2 c = omega (arith, (ranked c).inside)

pub returns-clause-value : goal.returns-clause-value
returns-clause-value c = (ranked c).value

pub returns-clause-range : goal.returns-clause-range
returns-clause-range c = omega (arith, (ranked c).value, (ranked c).range)
