-- The replies over bytes of either kind.
use Rattle.std.proofs.Common.{◌≡◌, ℕ, List, Some, IfErr, IfOk, length, ap, subst, sym}
use Rattle.std.specs.Io.KnownBytes.{IsAtEnd}
use Rattle.race_model.specs.Prelude.{Book, lines_of}
use Rattle.db_layout.specs.declared.stated.Kind.{Kind}
use Rattle.epc_query.specs.Runs.{HasReplies, IsRunStopped}
use Rattle.epc_query.proofs.FileBooks.{right_file_book}
use Rattle.bearoff_cli.proofs.OpenedFiles.{are_answered}
use Rattle.bearoff_cli.proofs.kinds.run_kept.Goals as goal

pub returns-clause-answers : goal.returns-clause-answers
returns-clause-answers g c given read =
    let kind = c.args.kind in
    let bytes = c.args.bytes.now in
    let left = g.I.Read.remaining c.run_lines.new.reader in
    let old = g.O.Write.contents c.args.output.now in
    let new = g.O.Write.contents c.run_lines.new.writer in
    are_answered kind bytes given left old new c.run_lines.result c.requires.right
    (subst (λ (b : Book). IfOk c.run_lines.result (λ n. IsAtEnd left
    × (n ≡ length (lines_of given)) × HasReplies b (lines_of given) old new))
    (sym (right_file_book kind bytes c.requires.right))
    (c.run_lines.ensures.done bytes
    (ap (λ (opened : Kind × List ℕ). Some opened.1) c.kept-opened.ensures)
    given read))

pub returns-clause-stopped : goal.returns-clause-stopped
returns-clause-stopped g c given read =
    let bytes = c.args.bytes.now in
    subst (λ (b : Book). IfErr c.run_lines.result (IsRunStopped b given
    (g.I.Read.remaining c.run_lines.new.reader) (g.O.Write.contents c.args.output.now)
    (g.O.Write.contents c.run_lines.new.writer)))
    (sym (right_file_book c.args.kind bytes c.requires.right))
    (c.run_lines.ensures.stopped bytes
    (ap (λ (opened : Kind × List ℕ). Some opened.1) c.kept-opened.ensures) given read)
