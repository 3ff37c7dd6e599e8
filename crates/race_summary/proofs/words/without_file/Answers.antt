-- A file is named by the first of several words.
use Rattle.race_summary.proofs.Joined.{joined_at}
use Rattle.race_summary.proofs.words.without_file.Goals as goal

pub returns-in-Some : goal.returns-in-Some
returns-in-Some c =
    let it = c.in-Some.ensures.cases in (
      c.is_no_notation.ensures c.if-is_no_notation.true,
      joined_at c.args.lines.now c.trim_end.result.now c.in-Some.first.now c.in-Some.rest.now it.0
          it.1 c.trim_end.ensures.value it.2.1 it.3 it.4,
    )
