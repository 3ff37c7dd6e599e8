-- A build over the greatest bound is refused; one whose file or line can't be written has status 1.
use Rattle.std.proofs.Common.{◌≡◌, ◌<◌, ◌≤◌, ◌∙◌, Err, refl, arith, rules}
use Rattle.db_layout.proofs.Known.{appends_none}
use Rattle.command_line.specs.Asked.{build}
use Rattle.bearoff_cli.specs.Kinds.{IsBuiltOf, greatest}
use Rattle.bearoff_cli.specs.declared.fault.Fault.TheVariants.{OverBound, Write}
use Rattle.bearoff_cli.specs.declared.act.ProgramFault.TheVariants.{Failed}
use Rattle.bearoff_cli.proofs.Endings.{build_quiet, ends_failed, ends_written, fails_early, over_can, within_can}
use Rattle.bearoff_cli.proofs.KeptFiles.{keeps_all}
use Rattle.bearoff_cli.proofs.OpenedFiles.{ok-weaker, on_ok}
use Rattle.bearoff_cli.proofs.act.write_built.Goals as goal

pub returns-then-pips-greatest-clause-ends : goal.returns-then-pips-greatest-clause-ends
returns-then-pips-greatest-clause-ends g c input =
    let over : greatest c.args.kind < c.args.pips =
    omega (arith, c.if-pips-greatest.true, c.greatest.ensures) in
    ends_failed _ _ (build c.args.kind c.args.pips c.args.path.now) _ _ (Failed OverBound) (
      tt,
      record {
        can = over_can c.args.kind c.args.pips c.args.path.now over;
        of_file = tt;
        turns = tt;
        leaves = (0, appends_none _);
      },
    ) (λ high. (refl, refl))
    (keeps_all _ c.args.path.now _ (IsBuiltOf c.args.kind c.args.pips) _) refl

pub returns-in_err-build_file-clause-ends : goal.returns-in_err-build_file-clause-ends
returns-in_err-build_file-clause-ends g c input =
    let low : c.args.pips ≤ greatest c.args.kind =
    omega (arith, c.if-pips-greatest.false, c.greatest.ensures) in
    let fault = c.in_err-build_file.field-0.0 in
    let same : c.from_residual.result ≡ Err fault = search rules in
    let is = c.in_err-build_file.ensures.cause in
    rw same (fails_early _ _ (build c.args.kind c.args.pips c.args.path.now) _ _ fault tt
    (build_quiet fault is).0 (within_can c.args.kind c.args.pips c.args.path.now fault low is)
    (build_quiet fault is).1 c.in_err-build_file.ensures.kept refl refl)

pub returns-clause-ends : goal.returns-clause-ends
returns-clause-ends g c input =
    let low : c.args.pips ≤ greatest c.args.kind =
    omega (arith, c.if-pips-greatest.false, c.greatest.ensures) in
    let it = c.in_ok-build_file.ensures in
    let line = c.as_bytes.ensures.value ∙ c.as_str.ensures.value ∙ c.count_line-line.ensures in
    let r = c.write_flushed.result in
    ends_written _ _ (build c.args.kind c.args.pips c.args.path.now) _ _ r tt
    (within_can c.args.kind c.args.pips c.args.path.now Write low refl)
    c.write_flushed.ensures.cause (rw line at c.write_flushed.ensures.part)
    (ok-weaker r (λ all. (low, it.built, all)) (rw line at c.write_flushed.ensures.all))
    (on_ok r _ it.put) it.kept refl
