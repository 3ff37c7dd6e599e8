-- A roll is the last of several words.
use Rattle.std.proofs.Common.{subst}
use Rattle.race_summary.specs.Words.{IsRollWord}
use Rattle.race_summary.proofs.Joined.{joined_at}
use Rattle.race_summary.proofs.words.without_roll.Goals as goal

pub returns-in-Some-read_roll : goal.returns-in-Some-read_roll
returns-in-Some-read_roll c =
    let it = c.in-Some.ensures.cases in (
      c.in-Some.last.now,
      subst (λ word. IsRollWord word c.in-Some-read_roll.roll) c.as_bytes.ensures.value
          c.in-Some-read_roll.ensures,
      joined_at c.args.lines.now c.trim_end.result.now c.in-Some.before.now c.in-Some.last.now it.0
          it.1 c.trim_end.ensures.value it.2.1 it.3 it.4,
    )
