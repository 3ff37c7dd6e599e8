use Rattle.std.proofs.Common.{◌≤◌, ◌<◌, arith, refl, sym, subst, ◌∙◌}
use Rattle.race_model.specs.Prelude.{checkers, IsPositionText}
use Rattle.home_board.proofs.Counts.{kept_few, kept_many}
use Rattle.home_board.proofs.Texts.{text_apart}
use Rattle.home_board.proofs.text.parse_position.Goals as goal

pub returns-in-Ok-clause-read : goal.returns-in-Ok-clause-read
returns-in-Ok-clause-read c =
    let told = rw (c.in_ok-counts.ensures {u = tt}).ok_part at c.parse_counts.ensures.read in
    let same = kept_few told.0 c.in_ok-counts.counts told.2 (c.in-Ok.ensures.accepted.0 refl) in
    subst (IsPositionText c.args.text.now) (sym same ∙ sym c.in-Ok.ensures.value) told.1

pub returns-in-Ok-clause-too_many : goal.returns-in-Ok-clause-too_many
returns-in-Ok-clause-too_many c = (
  λ e. cc,
  λ w.
      let told = rw (c.in_ok-counts.ensures {u = tt}).ok_part at c.parse_counts.ensures.read in
      let few = c.in-Ok.ensures.accepted.0 refl in
      let same = kept_few told.0 c.in_ok-counts.counts told.2 few
      ∙ text_apart c.args.text.now told.0 w.0 told.1 w.1.0 in
      let checked : checkers w.0 ≤ 15 = rw (← same) few in
      absurd (omega (arith, checked, w.1.1)),
)

pub returns-in-Err-clause-too_many : goal.returns-in-Err-clause-too_many
returns-in-Err-clause-too_many c = (
  λ e.
      let told = rw (c.in_ok-counts.ensures {u = tt}).ok_part at c.parse_counts.ensures.read in
      let many : 15 < checkers c.in_ok-counts.counts =
      grind (arith, c.in-Err.ensures.accepted) in
      (told.0, (told.1, kept_many told.0 c.in_ok-counts.counts told.2 (omega (arith, many)))),
  λ w. refl,
)
