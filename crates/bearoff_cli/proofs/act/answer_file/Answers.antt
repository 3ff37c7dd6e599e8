-- The replies over the bytes that were read, which are a right file.
use Rattle.std.proofs.Common.{None, refl, subst, sym, rules}
use Rattle.command_line.specs.Asked.{query}
use Rattle.bearoff_cli.specs.Kinds.{asked_as}
use Rattle.bearoff_cli.specs.FileAnswers.{IsReadFrom}
use Rattle.bearoff_cli.proofs.Endings.{ends_at, ends_so, ends_unread, keeps_both, read_quiet}
use Rattle.bearoff_cli.proofs.OpenedFiles.{on_ok, over_read, told_done, told_left}
use Rattle.bearoff_cli.proofs.StoppedRuns.{read_stopped}
use Rattle.bearoff_cli.proofs.ToldFaults.{asked_of}
use Rattle.bearoff_cli.proofs.act.answer_file.Goals as goal

pub returns-in_err-file : goal.returns-in_err-file
returns-in_err-file g c =
    ends_unread _ _ (query c.args.kind c.args.path.now None) _ _ c.from_residual.result
    (λ fault. tt) (λ fault is. (read_quiet fault is).1) (search rules) (search rules)
    c.in_err-file.ensures.stays refl refl

pub returns : goal.returns
returns g c =
    let from = IsReadFrom g.D.Reader.Read.remaining (g.D.Disk.paths c.args.disk.now)
    (g.D.Disk.told c.args.disk.now) in
    let path = c.args.path.now in
    let kind = asked_as c.args.kind in
    let file = c.as_slice.result.now in
    let read = subst (from path) (sym c.as_slice.ensures.value) c.in_ok-file.ensures.read in
    let it = c.answer_asked.ensures in
    let r = c.answer_asked.result in
    ends_so _ _ (query c.args.kind path None) _ _ r (λ fault. tt)
    (ends_at from _ _ (query c.args.kind path None) r it.cause
    (asked_of c.args.kind (from path) file r read it.fault) it.turns (told_left r _ _
    (λ given told. read_stopped kind (from path) file given _ _ _ r read (it.left given told))))
    (told_done r _ _
    (λ given told. over_read kind (from path) file given _ _ _ r read (it.answers given told)))
    (on_ok r _ tt) (keeps_both _ _ r it.refused c.in_ok-file.ensures.stays)
    c.in_ok-file.ensures.stays tt
