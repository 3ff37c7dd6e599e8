-- Each line was written after those before it.
use Rattle.std.proofs.Common.{◌≡◌, suc, add-one, arith, rules, sym}
use Rattle.db_layout.proofs.Known.{on-error}
use Rattle.race_model.specs.Prelude.{bound_of}
use Rattle.bearoff_cli.specs.FileAnswers.{WritesLevels}
use Rattle.bearoff_cli.proofs.OpenedFiles.{next_level, levels_then_kept}
use Rattle.bearoff_cli.proofs.StoppedRuns.{levels_part, levels_and_part}
use Rattle.bearoff_cli.proofs.kinds.write_levels.Given.{Over}
use Rattle.bearoff_cli.proofs.kinds.write_levels.Goals.{After-flush, else-loop-pips-test}
use Rattle.bearoff_cli.proofs.kinds.write_levels.Goals.{then-loop-pips-test+in_ok-write_level+else-pips-pips-end}
use Rattle.bearoff_cli.proofs.kinds.write_levels.Goals as goal

pub loop-pips-preserved : goal.loop-pips-preserved
loop-pips-preserved g c = rw add-one (next_level c.args.kind c.args.bytes.now
    c.loop-pips.pips
    _ _ _ c.loop-pips.invariant c.in_ok-write_level.ensures.level)

pub returns-in_err-write_level-clause-part : goal.returns-in_err-write_level-clause-part
returns-in_err-write_level-clause-part g c =
    let end = c.requires.bound in
    on-error c.from_residual.result (levels_and_part c.args.kind c.args.bytes.now
    c.loop-pips.pips _ _ _ (omega (arith, end)) c.loop-pips.invariant
    c.in_err-write_level.ensures.part)

-- the lines of all pip counts were written
all : (g : Over) (c : After-flush g) → WritesLevels c.args.kind c.args.bytes.now
    (suc (bound_of c.args.bytes.now)) (g.O.Write.contents c.args.output.now)
    (g.O.Write.contents c.loop-pips-test.output)
all g c =
    let end = c.requires.bound in
    elim c.loop-pips-test.branch [
      | else-loop-pips-test w ↦ absurd (omega (arith, w.loop-pips-test.false))
      | then-loop-pips-test+in_ok-write_level+else-pips-pips-end w ↦
          let last : c.loop-pips.pips ≡ bound_of c.args.bytes.now = omega (arith, end) in
          rw (w.output-is, sym last) (next_level c.args.kind c.args.bytes.now c.loop-pips.pips _ _ _
          c.loop-pips.invariant w.in_ok-write_level.ensures.level)
    ]

pub returns-clause-part : goal.returns-clause-part
returns-clause-part g c =
    let count = suc (bound_of c.args.bytes.now) in
    on-error c.flush.result (levels_part c.args.kind c.args.bytes.now count _ _
    (omega arith)
    (levels_then_kept c.args.kind c.args.bytes.now count _ _ _
    (all g (goal.at.returns-clause-part g c).After-flush) c.flush.ensures.kept))

pub returns-clause-levels : goal.returns-clause-levels
returns-clause-levels g c =
    let written = levels_then_kept c.args.kind c.args.bytes.now
    (suc (bound_of c.args.bytes.now)) _ _ _
    (all g (goal.at.returns-clause-levels g c).After-flush) c.flush.ensures.kept in
    search rules
