use Rattle.std.proofs.Common.{◌≡◌, ℕ, ◌+◌, ◌*◌, ◌/◌, ◌%◌, ◌^◌, ◌<◌, ap, subst, sym, ◌∙◌, arith}
use Rattle.race_model.specs.Prelude.{IsFinished, pips, most_rolls, Parts, value_of_parts}
use Rattle.race_model.proofs.Positions.Points.{no_pips}
use Rattle.db_layout.proofs.SameFronts.{mean-agree, play-agree}
use Rattle.retrograde.specs.NextBoardRecord.{AreCountsBy}
use Rattle.db_layout.specs.LowerRecords.{board_mean}
use Rattle.retrograde.proofs.BoardResults.{are-results, are-below}
use Rattle.retrograde.proofs.board_record.put_record.Goals as goal

-- two parts of a number make it
parts-value : (n : ℕ) → n / 36 ^ 11 * 36 ^ 11 + n % 36 ^ 11 ≡ n
parts-value n = omega arith

parts-written : (n : ℕ) → n % 36 ^ 11 < 36 ^ 11
parts-written n = omega arith

pub returns-then-is_finished-clause-says : goal.returns-then-is_finished-clause-says
returns-then-is_finished-clause-says c =
    let none : IsFinished c.args.position.now =
    c.is_finished.ensures.value.0 c.if-is_finished.true in
    let few : most_rolls (pips c.args.position.now) ≡ 0 =
    ap most_rolls (no_pips c.args.position.now none) in
    let mean =
    mean-agree c.put_plays.new.bytes c.put_mean.new.bytes 24 c.put_plays.ensures.before.bytes
    (omega arith) ∙ c.put_mean.ensures.mean in
    record {
      written = subst (λ (parts : Parts). parts.lower < 36 ^ 11) (sym mean) (omega arith);
      at_end = λ _. ap value_of_parts mean ∙ omega arith;
      before = λ unfinished. absurd (unfinished none);
      play_is = c.put_plays.ensures.plays;
      counts = record {
        written = λ k many le. absurd (omega (arith, few));
        value = λ k under. absurd (omega (arith, few));
      };
    }

pub mean_of-requires-clause-unfinished : goal.mean_of-requires-clause-unfinished
mean_of-requires-clause-unfinished c none =
    let yes = c.is_finished.ensures.value.1 none in cc

pub mean_of-requires-clause-below : goal.mean_of-requires-clause-below
mean_of-requires-clause-below c =
    are-below (board_mean c.args.lower.now.bytes) c.args.position.now c.args.plays.now
    c.requires.plays c.args.lower.now.count c.is_finished.ensures.position
    (mean_of-requires-clause-unfinished c) c.requires.next

pub mean_of-requires-clause-results : goal.mean_of-requires-clause-results
mean_of-requires-clause-results c =
    are-results (board_mean c.args.lower.now.bytes) c.args.position.now c.args.plays.now
    c.requires.plays

pub put_counts-requires-clause-below : goal.put_counts-requires-clause-below
put_counts-requires-clause-below c =
    let unfinished : ¬ IsFinished c.args.position.now =
    λ none. let yes = c.is_finished.ensures.value.1 none in cc in
    are-below (board_mean c.args.lower.now.bytes) c.args.position.now c.args.plays.now
    c.requires.plays c.args.lower.now.count c.is_finished.ensures.position unfinished
    c.requires.next

pub returns-clause-says : goal.returns-clause-says
returns-clause-says c =
    let unfinished : ¬ IsFinished c.args.position.now =
    λ none. let yes = c.is_finished.ensures.value.1 none in cc in
    let new = c.put_counts.new.bytes in
    let mean =
    mean-agree new c.put_plays-2.new.bytes 66 c.put_counts.ensures.before.bytes (omega arith)
    ∙ mean-agree c.put_plays-2.new.bytes c.put_mean-2.new.bytes 24
    c.put_plays-2.ensures.before.bytes (omega arith)
    ∙ c.put_mean-2.ensures.mean in
    record {
      written = subst (λ (parts : Parts). parts.lower < 36 ^ 11) (sym mean)
          (parts-written c.mean_of.result);
      at_end = λ none. absurd (unfinished none);
      before = λ _.
          ap (λ n. 36 * n) (ap value_of_parts mean ∙ parts-value c.mean_of.result)
          ∙ c.mean_of.ensures;
      play_is = λ i inside.
          play-agree new c.put_plays-2.new.bytes 66 c.put_counts.ensures.before.bytes i
          (omega (arith, inside))
          ∙ c.put_plays-2.ensures.plays i inside;
      counts =
          subst
          (λ p. AreCountsBy c.args.lower.now.bytes (most_rolls p) c.args.plays.now new)
          c.pips.ensures.value c.put_counts.ensures.counts;
    }
