-- The two files that stand among the words.
use Rattle.std.proofs.Common.{ap₂, ◌∙◌, [], ◌∷◌, map, codes, refl}
use Rattle.clap.specs.Words.{takes}
use Rattle.command_line.specs.Asked.{upgrade}
use Rattle.command_line.specs.Commands.{upgrade_app}
use Rattle.command_line.proofs.PlainWords.{first_from, memory_left, new_first, old_first, upgrade_takes}
use Rattle.command_line.proofs.Contained.{among, first_of_them, second_of_them}
use Rattle.command_line.proofs.commands.read_upgrade.Goals as goal

pub returns-in_err-matches-clause-usual : goal.returns-in_err-matches-clause-usual
returns-in_err-matches-clause-usual g c old new (old_plain, new_plain, words_are) =
    memory_left c.from_residual-in_err-matches.result _ _ c.from_residual-in_err-matches.ensures
    (c.in_err-matches.ensures.passes (ap₂ takes c.in_ok-upgrade_command.ensures words_are ∙
    upgrade_takes old new old_plain new_plain))

pub returns-in_err-old-clause-usual : goal.returns-in_err-old-clause-usual
returns-in_err-old-clause-usual g c old new (old_plain, new_plain, words_are) =
    let same = first_from _ upgrade_app _ _ c.in_ok-matches.matches (codes "OLD") old
    c.in_ok-upgrade_command.ensures refl c.in_ok-matches.ensures.matches words_are
    (old_first old new old_plain new_plain) in
    memory_left c.from_residual-in_err-old.result _ _ c.from_residual-in_err-old.ensures
    ((c.in_err-old.ensures.some old same
    (among _ _ old words_are (first_of_them old (new ∷ [])))).1)

pub returns-in_err-new-clause-usual : goal.returns-in_err-new-clause-usual
returns-in_err-new-clause-usual g c old new (old_plain, new_plain, words_are) =
    let same = first_from _ upgrade_app _ _ c.in_ok-matches.matches (codes "NEW") new
    c.in_ok-upgrade_command.ensures refl c.in_ok-matches.ensures.matches words_are (new_first old
    new old_plain new_plain) in
    memory_left c.from_residual-in_err-new.result _ _ c.from_residual-in_err-new.ensures
    ((c.in_err-new.ensures.some new same (among _ _ new words_are (second_of_them old new []))).1)

pub returns-clause-asked : goal.returns-clause-asked
returns-clause-asked g c =
    let words = map g.S.AsStr.text c.args.words.now in
    ((words, refl, c.in_ok-old.ensures.word), (words, refl, c.in_ok-new.ensures.word))

pub returns-clause-usual : goal.returns-clause-usual
returns-clause-usual g c old new (old_plain, new_plain, words_are) =
    let app = c.in_ok-upgrade_command.ensures in
    let has = c.in_ok-matches.ensures.matches in
    let m = c.in_ok-matches.matches in
    let old_same = first_from _ upgrade_app _ _ m (codes "OLD") old app refl has words_are
    (old_first old new old_plain new_plain) in
    let new_same = first_from _ upgrade_app _ _ m (codes "NEW") new app refl has words_are
    (new_first old new old_plain new_plain) in
    let o = c.in_ok-old.ensures.some old old_same (among _ _ old words_are (first_of_them old (new ∷
    []))) in
    let n = c.in_ok-new.ensures.some new new_same (among _ _ new words_are (second_of_them old new
    [])) in
    (ap₂ upgrade o.0 n.0, tt)
