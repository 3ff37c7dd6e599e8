-- The file and the lines that stand among the words.
use Rattle.std.proofs.Common.{◌∙◌, ◌∷◌, ap₂, sym, map, codes, refl}
use Rattle.clap.specs.Words.{takes}
use Rattle.command_line.specs.Asked.{ask}
use Rattle.command_line.specs.Commands.{ask_app}
use Rattle.command_line.proofs.PlainWords.{ask_file, ask_lines, ask_takes, all_from, first_from, memory_left}
use Rattle.command_line.proofs.Contained.{among, first_of_them}
use Rattle.command_line.proofs.commands.read_ask.Goals as goal

pub returns-in_err-matches-clause-usual : goal.returns-in_err-matches-clause-usual
returns-in_err-matches-clause-usual g c path text (line, lines, plain, all, same_text, words_are) =
    memory_left c.from_residual-in_err-matches.result _ _ c.from_residual-in_err-matches.ensures
    (c.in_err-matches.ensures.passes (ap₂ takes c.in_ok-ask_command.ensures words_are
    ∙ ask_takes path plain line lines all))

pub returns-in_err-path-clause-usual : goal.returns-in_err-path-clause-usual
returns-in_err-path-clause-usual g c path text (line, lines, plain, all, same_text, words_are) =
    let same = first_from _ ask_app _ _ c.in_ok-matches.matches (codes "FILE") path
    c.in_ok-ask_command.ensures refl c.in_ok-matches.ensures.matches words_are
    (ask_file path plain line lines all) in
    memory_left c.from_residual-in_err-path.result _ _ c.from_residual-in_err-path.ensures
    ((c.in_err-path.ensures.some path same
    (among _ _ path words_are (first_of_them path (line ∷ lines)))).1)

pub returns-clause-asked : goal.returns-clause-asked
returns-clause-asked g c = (map g.S.AsStr.text c.args.words.now, refl, c.in_ok-path.ensures.word)

pub returns-clause-usual : goal.returns-clause-usual
returns-clause-usual g c path text (line, lines, plain, all, same_text, words_are) =
    let app = c.in_ok-ask_command.ensures in
    let has = c.in_ok-matches.ensures.matches in
    let m = c.in_ok-matches.matches in
    let file = first_from _ ask_app _ _ m (codes "FILE") path app refl has words_are (ask_file path
    plain line lines all) in
    let read = c.in_ok-lines.ensures (line ∷ lines) (all_from _ ask_app _ _ m (codes "LINE") (line ∷
    lines) app refl has words_are (ask_lines path plain line lines all)) in
    let found = c.in_ok-path.ensures.some path file (among _ _ path words_are (first_of_them path
    (line ∷ lines))) in
    (ap₂ ask found.0 (read ∙ sym same_text), tt)
