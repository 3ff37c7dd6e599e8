-- The file that stands among the words, with `--board` or without it.
use Rattle.std.proofs.Common.{ap, ap₂, ◌∙◌, codes}
use Rattle.clap.specs.Words.{first_of, found_of, matches_of, takes, is_simple}
use Rattle.clap.proofs.WalkLemmas.{first_value-rows}
use Rattle.command_line.proofs.PlainWords.{memory_left}
use Rattle.command_line.proofs.BoardWords.{kind_first, kind_takes}
use Rattle.command_line.proofs.Contained.{among, flagged_file}
use Rattle.command_line.proofs.commands.read_file.Goals as goal

pub returns-in_err-matches-clause-given : goal.returns-in_err-matches-clause-given
returns-in_err-matches-clause-given g c kind path plain words_are =
    memory_left c.from_residual-in_err-matches.result _ _ c.from_residual-in_err-matches.ensures
    (c.in_err-matches.ensures.passes (ap₂ takes c.in_ok-command.ensures words_are
    ∙ kind_takes c.args.name.now kind path plain))

pub returns-clause-given : goal.returns-clause-given
returns-clause-given g c kind path plain words_are =
    let m = c.in_ok-matches.matches in
    let rows = (c.in_ok-matches.ensures.matches (ap is_simple c.in_ok-command.ensures)).0 in
    let same = first_value-rows (found_of m) (codes "FILE") ∙ ap (first_of (codes "FILE")) (rows ∙
    ap₂ matches_of c.in_ok-command.ensures words_are) ∙ kind_first c.args.name.now kind path plain
    in
    c.value_of.ensures.some path same (among _ _ path words_are (flagged_file kind path))
