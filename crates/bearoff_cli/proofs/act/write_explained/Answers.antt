-- What was written of the line, and then of what it means, is a part of both.
use Rattle.std.proofs.Common.{◌≡◌, Result, Ok, Err, OnOk, ℕ, List, Option, ◌++◌, ◌∙◌, rules}
use Rattle.std.specs.Io.KnownBytes.{Appends}
use Rattle.db_layout.proofs.Known.{appends_twice}
use Rattle.query_text.proofs.Held.{part_after, part_all, part_longer}
use Rattle.bearoff_cli.specs.Faults.{error_line}
use Rattle.bearoff_cli.specs.Meanings.{meaning_line, shown}
use Rattle.bearoff_cli.proofs.act.write_explained.Goals as goal

-- what was written after the line is written after all before it
after : {A E : Type 0} (old mid new : Option (List ℕ)) (first more : List ℕ) (r : Result A E)
    → Appends old mid first → OnOk r (Appends mid new more)
    → OnOk r (Appends old new (first ++ more))
after old mid new first more (Ok x) before then = appends_twice old mid new first more before then
after old mid new first more (Err e) before then = tt

pub returns-in_err-write_fault : goal.returns-in_err-write_fault
returns-in_err-write_fault g c =
    let it = c.args.explained.now in
    let reason = c.reason_text-reason.result.bytes in
    let same : c.from_residual.result ≡ Err c.in_err-write_fault.field-0.0 = search rules in (
      reason,
      c.reason_text-reason.ensures,
      (
        part_longer (g.E.Write.contents c.args.errors.now)
            (g.E.Write.contents c.write_fault.new.errors)
            (error_line it.fault) (meaning_line (shown it.path.now) it.fault reason)
            c.in_err-write_fault.ensures.part,
        rw same tt,
      ),
    )

-- a refused memory leaves the first line
pub returns-in-Err : goal.returns-in-Err
returns-in-Err g c =
    let it = c.args.explained.now in
    let reason = c.reason_text-reason.result.bytes in
    let old = g.E.Write.contents c.args.errors.now in
    let new = g.E.Write.contents c.write_fault.new.errors in (
      reason,
      c.reason_text-reason.ensures,
      (
        part_longer old new (error_line it.fault)
            (meaning_line (shown it.path.now) it.fault reason)
            (part_all old new (error_line it.fault) c.in_ok-write_fault.ensures.all),
        tt,
      ),
    )

pub returns-in-Ok : goal.returns-in-Ok
returns-in-Ok g c =
    let it = c.args.explained.now in
    let reason = c.reason_text-reason.result.bytes in
    let old = g.E.Write.contents c.args.errors.now in
    let mid = g.E.Write.contents c.write_fault.new.errors in
    let new = g.E.Write.contents c.write_meaning.new.errors in
    let first = error_line it.fault in
    let path = c.as_str.ensures.value ∙ c.in-Ok.ensures in
    let more = meaning_line (shown it.path.now) it.fault reason in (
      reason,
      c.reason_text-reason.ensures,
      (
        part_after old mid new first more c.in_ok-write_fault.ensures.all
            (rw path at c.write_meaning.ensures.part),
        after old mid new first more c.write_meaning.result c.in_ok-write_fault.ensures.all
            (rw path at c.write_meaning.ensures.all),
      ),
    )
