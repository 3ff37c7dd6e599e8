-- Where the file says nothing of a player, the line has no summary.
use Rattle.std.proofs.Common.{◌≡◌, ℕ, List, inl, inr, Err, refl, rules}
use Rattle.db_layout.specs.declared.stated.Kind.{Kind}
use Rattle.race_summary.specs.Summaries.{IsNoSummary, IsUnsaid}
use Rattle.race_summary.specs.declared.lines.NoSummary.{NoSummary}
use Rattle.race_summary.specs.declared.lines.NoSummary.TheVariants.{Text, SmallXgid, OverBound, Changed}
use Rattle.race_summary.proofs.lines.summary_of.Goals as goal

-- a line has no summary if a file says nothing of one of its players
unsaid : (opened : Kind × List ℕ) (line : List ℕ) (why : NoSummary) → IsUnsaid opened line why
    → IsNoSummary opened line why
unsaid opened line (Text why) it = absurd it.unsaid
unsaid opened line SmallXgid it = absurd it.unsaid
unsaid opened line (OverBound bound) it = it
unsaid opened line Changed it = it

pub returns-in_err-mine : goal.returns-in_err-mine
returns-in_err-mine c =
    let why = c.in_err-mine.field-0.0 in
    let same : c.from_residual.result ≡ Err why = search rules in
    rw same (unsaid c.args.opened.now c.args.line.now why record {
      race = c.in-Ok.race;
      read = c.in-Ok.ensures;
      position = c.in-Ok.race.mine;
      is_one = inl refl;
      unsaid = c.in_err-mine.ensures {u = tt};
    })

pub returns-in_err-side_of-in-Some : goal.returns-in_err-side_of-in-Some
returns-in_err-side_of-in-Some c =
    let why = c.in_err-side_of-in-Some.field-0.0 in
    let same : c.from_residual-in_err-side_of-in-Some.result ≡ Err why = search rules in
    rw same (unsaid c.args.opened.now c.args.line.now why record {
      race = c.in-Ok.race;
      read = c.in-Ok.ensures;
      position = c.in-Some.position;
      is_one = inr c.in-Some.is;
      unsaid = c.in_err-side_of-in-Some.ensures {u = tt};
    })
