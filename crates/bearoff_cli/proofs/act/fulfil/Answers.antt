-- What is done for a request is what its function did, and what it failed by is told.
use Rattle.std.proofs.Common.{◌≡◌, None, Some, refl, rules}
use Rattle.command_line.specs.Asked.{asked_by, default, query}
use Rattle.bearoff_cli.proofs.Endings.{answers_keep, ends_at, ends_so, on_err}
use Rattle.bearoff_cli.proofs.OpenedFiles.{on_ok, told_done, told_left}
use Rattle.bearoff_cli.proofs.act.fulfil.Goals as goal

pub returns-in-Default : goal.returns-in-Default
returns-in-Default g c =
    let it = c.answer_default.ensures in
    let r = c.answer_default.result in
    rw c.in-Default.is (rw c.refused.ensures (ends_so _ _ default _ _ r (λ fault. tt)
    (ends_at _ _ _ default r it.cause (on_err _ r (λ fault. tt)) it.turns
    (told_left r _ _ it.left)) (told_done r _ _ it.answers) (on_ok r _ tt)
    (answers_keep _ r it.cause) refl tt))

pub returns-in-Build : goal.returns-in-Build
returns-in-Build g c = rw c.in-Build.is (rw c.refused-in-Build.ensures
    (c.write_built.ensures.ends (g.I.Read.remaining c.args.input.now)))

pub returns-in-Check : goal.returns-in-Check
returns-in-Check g c = rw c.in-Check.is (rw c.refused-in-Check.ensures
    (c.report_file.ensures (g.I.Read.remaining c.args.input.now)))

pub returns-in-Audit : goal.returns-in-Audit
returns-in-Audit g c = rw c.in-Audit.is (rw c.refused-in-Audit.ensures
    (c.report_file-in-Audit.ensures (g.I.Read.remaining c.args.input.now)))

pub returns-in-Upgrade : goal.returns-in-Upgrade
returns-in-Upgrade g c = rw c.in-Upgrade.is (rw c.refused-in-Upgrade.ensures
    (c.upgrade_database.ensures (g.I.Read.remaining c.args.input.now)))

pub returns-in-About : goal.returns-in-About
returns-in-About g c =
    rw c.in-About.is (c.about_file.ensures (g.I.Read.remaining c.args.input.now))

pub returns-in-Ask : goal.returns-in-Ask
returns-in-Ask g c = rw c.in-Ask.is (rw c.refused-in-Ask.ensures
    (rw c.as_str.ensures.value at
    (c.answer_words.ensures (g.I.Read.remaining c.args.input.now))))

pub returns-in-Query-default-default-None : goal.returns-in-Query-default-default-None
returns-in-Query-default-default-None g c =
    let at = c.in-Query-default-default-None in
    let asked : asked_by c.args.request ≡ query at.kind at.path.now None = search rules in
    rw asked (rw c.refused-in-Query-default-default-None.ensures c.answer_file.ensures)

pub returns-in-Query-default-default-Some : goal.returns-in-Query-default-default-Some
returns-in-Query-default-default-Some g c =
    let at = c.in-Query-default-default-Some in
    let asked : asked_by c.args.request ≡ query at.kind at.path.now (Some at.records) =
    search rules in
    rw asked (rw c.refused-in-Query-default-default-Some.ensures
    (c.answer_pages.ensures at.kind))
