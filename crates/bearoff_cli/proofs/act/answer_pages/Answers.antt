-- How the answers by pages end is all that is said of them.
use Rattle.std.proofs.Common.{Some, refl, rules}
use Rattle.command_line.specs.Asked.{query}
use Rattle.bearoff_cli.specs.declared.fault.Fault.TheVariants.{Open, Memory}
use Rattle.bearoff_cli.proofs.Endings.{ends_at, ends_so, ends_unread, fails_early, keeps_both, on_err, read_quiet}
use Rattle.bearoff_cli.proofs.OpenedFiles.{on_ok}
use Rattle.bearoff_cli.proofs.act.answer_pages.Goals as goal

pub returns-in_err-room : goal.returns-in_err-room
returns-in_err-room g c kind =
    ends_unread _ _ (query kind c.args.path.now (Some c.args.records)) _ _ c.from_residual.result
    (λ fault. tt) (λ fault is. (read_quiet fault is).1) (search rules) (search rules) refl refl refl

pub returns-in_default : goal.returns-in_default
returns-in_default g c kind =
    fails_early _ _ _ _ _ Open tt refl refl refl c.open_to_read.ensures.stays refl refl

pub returns-in-Err : goal.returns-in-Err
returns-in-Err g c kind =
    fails_early _ _ _ _ _ Memory tt refl refl refl c.open_to_read.ensures.stays refl refl

pub returns-in-Ok-new : goal.returns-in-Ok-new
returns-in-Ok-new g c kind =
    let asked = query kind c.args.path.now (Some c.args.records) in
    let it = c.answer_table.ensures in
    let r = c.answer_table.result in
    let stays = c.open_to_read.ensures.stays in
    ends_so _ _ asked _ _ r (λ fault. tt)
    (ends_at _ _ _ asked r it.cause (on_err _ r (λ fault. tt)) it.turns
    (on_err _ r (λ fault. tt))) (on_ok r _ tt) (on_ok r _ tt) (keeps_both _ _ r it.refused stays)
    stays tt
