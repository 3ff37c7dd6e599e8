use Rattle.std.proofs.Common.{slice_index, arith}
use Rattle.race_model.specs.Prelude.{IsFinished}
use Rattle.race_model.proofs.Ranks.BestPlays.{play-at_end}
use Rattle.retrograde.proofs.Best.{legal-below}
use Rattle.retrograde.proofs.plays.best_play.Goals as goal

pub returns-then-is_finished : goal.returns-then-is_finished
returns-then-is_finished c =
    play-at_end (slice_index c.args.means.now) c.args.position.now c.args.roll
    c.is_finished.ensures.position
    (c.is_finished.ensures.value.0 c.if-is_finished.true)

pub best_result-requires : goal.best_result-requires
best_result-requires c = λ z legal.
    let unfinished : ¬ IsFinished c.args.position.now =
    λ none.
    let is = c.is_finished.ensures.value.1 none in
    let not = c.if-is_finished.false in cc in
    omega (
      arith,
      legal-below c.args.position.now c.args.roll z c.is_finished.ensures.position unfinished
          legal,
      c.requires,
    )
