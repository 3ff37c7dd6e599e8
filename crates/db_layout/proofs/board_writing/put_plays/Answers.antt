use Rattle.std.proofs.Common.{◌≡◌, ⊎_elim, ◌+◌, ◌*◌, subst, ◌∙◌, arith, slice_index}
use Rattle.std.proofs.lemmas.Bool.{cases_lt}
use Rattle.race_model.specs.Prelude.{board_play_of}
use Rattle.db_layout.proofs.SameFronts.{keeps_twice, play-agree, rest-agree}
use Rattle.db_layout.proofs.board_writing.put_plays.Goals as goal

pub loop-roll-preserved : goal.loop-roll-preserved
unfolding board_play_of
loop-roll-preserved c =
    let place = 24 + 2 * c.loop-roll.roll in
    record {
      before =
          keeps_twice 24 place c.args.bytes.now c.loop-roll.bytes c.put_short.new.bytes
          (omega arith) c.loop-roll.invariant.before c.put_short.ensures.before;
      after =
          rest-agree c.put_short.new.bytes c.loop-roll.bytes (place + 2) 66 (omega arith)
          c.put_short.ensures.after
          ∙ c.loop-roll.invariant.after;
      plays = λ i under. ⊎_elim
          (λ earlier.
          play-agree c.put_short.new.bytes c.loop-roll.bytes place c.put_short.ensures.before.bytes
          i (omega arith)
          ∙ c.loop-roll.invariant.plays i earlier)
          (λ here.
          let e : c.loop-roll.roll ≡ i = omega arith in
          subst
          (λ j. board_play_of c.put_short.new.bytes j ≡ slice_index c.args.plays.now j) e
          c.put_short.ensures.number)
          (cases_lt i c.loop-roll.roll);
    }
