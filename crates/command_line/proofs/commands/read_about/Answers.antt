-- The file that stands among the words.
use Rattle.std.proofs.Common.{◌∙◌, [], ap, ap₂, map, codes, refl}
use Rattle.clap.specs.Words.{takes}
use Rattle.command_line.specs.Asked.{about}
use Rattle.command_line.specs.Commands.{about_app}
use Rattle.command_line.proofs.PlainWords.{about_first, about_takes, first_from, memory_left}
use Rattle.command_line.proofs.Contained.{among, first_of_them}
use Rattle.command_line.proofs.commands.read_about.Goals as goal

pub returns-in_err-matches-clause-usual : goal.returns-in_err-matches-clause-usual
returns-in_err-matches-clause-usual g c path (plain, words_are) =
    memory_left c.from_residual-in_err-matches.result _ _ c.from_residual-in_err-matches.ensures
    (c.in_err-matches.ensures.passes
    (ap₂ takes c.in_ok-about_command.ensures words_are ∙ about_takes path plain))

pub returns-in_err-path-clause-usual : goal.returns-in_err-path-clause-usual
returns-in_err-path-clause-usual g c path (plain, words_are) =
    let same = first_from _ about_app _ _ c.in_ok-matches.matches (codes "FILE") path
    c.in_ok-about_command.ensures refl c.in_ok-matches.ensures.matches words_are (about_first path
    plain) in
    memory_left c.from_residual-in_err-path.result _ _ c.from_residual-in_err-path.ensures
    ((c.in_err-path.ensures.some path same (among _ _ path words_are (first_of_them path []))).1)

pub returns-clause-asked : goal.returns-clause-asked
returns-clause-asked g c = (map g.S.AsStr.text c.args.words.now, refl, c.in_ok-path.ensures.word)

pub returns-clause-usual : goal.returns-clause-usual
returns-clause-usual g c path (plain, words_are) =
    let same = first_from _ about_app _ _ c.in_ok-matches.matches (codes "FILE") path
    c.in_ok-about_command.ensures refl c.in_ok-matches.ensures.matches words_are (about_first path
    plain) in
    let read = c.in_ok-path.ensures.some path same (among _ _ path words_are (first_of_them path
    [])) in
    (ap about read.0, tt)
