-- The words ask for a request, and so it is the one that was read and fulfilled.
use Rattle.std.proofs.Common.{IfOk, map, subst, sym, ◌∙◌, inr}
use Rattle.command_line.specs.Asked.{IsAskedBy, IsFor, asked_by}
use Rattle.command_line.specs.declared.words.WordsError.{WordsError}
use Rattle.command_line.specs.declared.words.WordsError.TheVariants.{OutOfMemory}
use Rattle.bearoff_cli.proofs.Endings.{ends_asked, explained_for, memory_ends}
use Rattle.bearoff_cli.proofs.act.perform.Goals as goal

abbrev IsMemory : WordsError → Type 0
IsMemory OutOfMemory = Unit {0}
IsMemory _ = ⊥

pub returns-in-Err-OutOfMemory-clause-ends : goal.returns-in-Err-OutOfMemory-clause-ends
returns-in-Err-OutOfMemory-clause-ends g c asked asks = memory_ends _ _ asked _

pub returns-in-Err-clause-ends : goal.returns-in-Err-clause-ends
returns-in-Err-clause-ends g c asked asks = memory_ends _ _ asked _

-- words that ask for a request ask for no help
pub returns-in-Err-Help-clause-ends : goal.returns-in-Err-Help-clause-ends
returns-in-Err-Help-clause-ends g c asked asks =
    let memory = (c.in-Err-Help.ensures.usual asked asks).1 in
    absurd (subst (λ e. IsMemory e) (sym memory ∙ c.in-Err-Help.field-0-is) tt)

-- and are not wrong
pub returns-in-Ok-text_of_shown-clause-ends : goal.returns-in-Ok-text_of_shown-clause-ends
returns-in-Ok-text_of_shown-clause-ends g c asked asks =
    let memory = (c.in-Err-Mistake.ensures.usual asked asks).1 in
    absurd (subst (λ e. IsMemory e) (sym memory ∙ c.in-Err-Mistake.field-0-is) tt)

pub returns-in-Ok-clause-ends : goal.returns-in-Ok-clause-ends
returns-in-Ok-clause-ends g c asked asks =
    ends_asked _ _ (asked_by c.in-Ok.request) asked _ _ c.fulfil.result
    (subst (λ r. IfOk r (IsFor asked)) c.in-Ok.is (c.read_words.ensures.usual asked asks).0)
    c.fulfil.ensures

-- what is explained is of `about`
pub returns-in-Ok-clause-any : goal.returns-in-Ok-clause-any
returns-in-Ok-clause-any g c =
    let it = c.fulfil.ensures in
    let words = map g.S.AsStr.text c.args.words.now in
    let asked = subst (λ r. IfOk r (λ request. IsAskedBy words (asked_by request))) c.in-Ok.is
    c.read_words.ensures.asked in
    record {
      keeps = it.keeps;
      explained = explained_for _ (asked_by c.in-Ok.request) words _ _ c.fulfil.result asked
          it.fault;
      other = inr (asked_by c.in-Ok.request, asked, it.leaves, it.unread);
    }
