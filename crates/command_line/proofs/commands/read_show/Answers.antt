-- The positions that stand among the words, and the flag before them.
use Rattle.std.proofs.Common.{◌∙◌, ◌∷◌, ap₂, sym, codes, refl, Some}
use Rattle.clap.specs.Words.{takes}
use Rattle.command_line.specs.Asked.{show}
use Rattle.command_line.specs.Commands.{show_app}
use Rattle.command_line.proofs.PlainWords.{all_from, one_from, memory_left}
use Rattle.command_line.proofs.ShowWords.{flag_is, form_text, show_form, show_positions, show_takes}
use Rattle.command_line.proofs.commands.read_show.Goals as goal

pub returns-in_err-matches-clause-usual : goal.returns-in_err-matches-clause-usual
returns-in_err-matches-clause-usual g c is_json text (line, lines, all, same_text, words_are) =
    memory_left c.from_residual-in_err-matches.result _ _ c.from_residual-in_err-matches.ensures
    (c.in_err-matches.ensures.passes (ap₂ takes c.in_ok-show_command.ensures words_are
    ∙ show_takes is_json line lines all))

pub returns-clause-usual : goal.returns-clause-usual
returns-clause-usual g c is_json text (line, lines, all, same_text, words_are) =
    let app = c.in_ok-show_command.ensures in
    let has = c.in_ok-matches.ensures.matches in
    let m = c.in_ok-matches.matches in
    let flag = one_from _ show_app _ _ m (codes "json") (Some (form_text is_json)) app refl has
    words_are (show_form is_json line lines all) in
    let read = c.in_ok-words.ensures (line ∷ lines) (all_from _ show_app _ _ m (codes "POSITION")
    (line ∷ lines) app refl has words_are (show_positions is_json line lines all)) in (
      ap₂ show (flag_is is_json c.get_flag-is_json.result _ flag c.get_flag-is_json.ensures.value
          c.get_flag-is_json.ensures.other) (read ∙ sym same_text),
      tt,
    )
