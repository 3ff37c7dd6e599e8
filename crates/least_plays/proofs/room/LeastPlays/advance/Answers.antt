-- The position's row is written, and its best plays are those of its starts.
use Rattle.std.proofs.Common.{◌-◌, ◌%◌, ◌∷◌, [], replicate, slice_index, slice_index_or, sym, ap, subst, ◌∙◌}
use Rattle.std.proofs.Common.{arith, rules, mod-lt}
use Rattle.race_model.specs.Prelude.{IsFinished, number, roll_at, rank, IsBestPlay}
use Rattle.race_model.proofs.Dice.Faces.{number_positive}
use Rattle.race_model.proofs.Plays.Spent.{number_most}
use Rattle.race_model.proofs.Plays.MostPlays.{get_or-zeros}
use Rattle.race_model.proofs.Ranks.BestPlays.{run-at_end, play-at_end}
use Rattle.least_plays.specs.Known.{IsBestAfter}
use Rattle.least_plays.specs.declared.starts.Start.{Start}
use Rattle.least_plays.proofs.Knowing.{has_some, knows_more, finished_row}
use Rattle.least_plays.proofs.room.LeastPlays.advance.Goals as goal

pub starts-starts-requires : goal.starts-starts-requires
starts-starts-requires g c = (
  search rules,
  (
    record {
      position = c.is_finished.ensures.position;
      unfinished = λ none.
          let yes = c.is_finished.ensures.value.1 none in
          let no = c.if-is_finished.false in cc;
      held = c.requires.held;
      known = c.requires.known;
    },
    (has_some g.row.ROWS (rank c.args.position.now) c.requires.rows, c.requires.rows.few),
  ),
)

pub returns-then-is_finished-clause-known : goal.returns-then-is_finished-clause-known
returns-then-is_finished-clause-known g c =
    let x = c.args.position.now in
    let none : IsFinished x = c.is_finished.ensures.value.0 c.if-is_finished.true in
    knows_more (g.M.RankedMeans.mean c.args.means.now) c.args.self.now x
    (c.from-place.result % g.row.ROWS)
    (record { after = replicate 6 (replicate 3 0) }) c.is_finished.ensures.position
    (omega arith) c.requires.rows
    (ap (λ r. r % g.row.ROWS) (c.from-place.ensures ∙ c.rank.ensures.value))
    (mod-lt c.from-place.result (has_some g.row.ROWS (rank c.args.position.now) c.requires.rows))
    c.requires.known
    (λ d n few.
    subst (IsBestAfter (g.M.RankedMeans.mean c.args.means.now) x (d ∷ replicate n d))
    (sym (finished_row d n))
    (run-at_end (g.M.RankedMeans.mean c.args.means.now) (d ∷ replicate n d) x
    c.is_finished.ensures.position none))

pub returns-then-is_finished-clause-best : goal.returns-then-is_finished-clause-best
returns-then-is_finished-clause-best g c = λ i lt.
    let x = c.args.position.now in
    let none : IsFinished x = c.is_finished.ensures.value.0 c.if-is_finished.true in
    subst (IsBestPlay (g.M.RankedMeans.mean c.args.means.now) x (roll_at i))
    (sym (get_or-zeros 21 i))
    (play-at_end (g.M.RankedMeans.mean c.args.means.now) x (roll_at i)
    c.is_finished.ensures.position none)

pub returns-clause-known : goal.returns-clause-known
returns-clause-known g c =
    let mean = g.M.RankedMeans.mean c.args.means.now in
    let x = c.args.position.now in
    let starts = c.starts-starts.result in
    knows_more mean c.args.self.now x (c.from-place.result % g.row.ROWS) c.row_of.result
    c.is_finished.ensures.position (omega arith) c.requires.rows
    (ap (λ r. r % g.row.ROWS) (c.from-place.ensures ∙ c.rank.ensures.value))
    (mod-lt c.from-place.result (has_some g.row.ROWS (rank c.args.position.now) c.requires.rows))
    c.requires.known
    (λ d n few.
    let e : Start = record { after = []; plays = [] } in
    subst (λ xs. IsBestAfter mean x (d ∷ replicate n d) (slice_index xs n))
    (sym (c.row_of.ensures (number d - 1) e (omega (arith, number_positive d, number_most d))))
    (subst
    (λ y. IsBestAfter mean y (d ∷ replicate n d)
    (slice_index (slice_index_or starts.dice (number d - 1) e).after n))
    c.starts-starts.ensures.position ((c.starts-starts.ensures.starts.each d e).after n few)))

pub returns-clause-best : goal.returns-clause-best
returns-clause-best g c = λ i lt.
    subst
    (λ x. IsBestPlay (g.M.RankedMeans.mean c.args.means.now) x (roll_at i)
    (slice_index c.best_plays.result i))
    c.starts-starts.ensures.position (c.best_plays.ensures.best i lt)
