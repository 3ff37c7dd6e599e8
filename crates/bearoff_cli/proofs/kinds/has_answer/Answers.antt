-- Whether one of the lines of a text is answered is told of each in turn.
use Rattle.std.proofs.Common.{true, false, subst, rules, tests}
use Rattle.std.specs.List.{IsAnyAnswer}
use Rattle.std.proofs.lemmas.Iterator.{cases_from_any}
use Rattle.std.proofs.lemmas.Iterator.Splits.{YieldsList-from_lines}
use Rattle.bearoff_cli.specs.FileAnswers.{IsAnsweredBy}
use Rattle.bearoff_cli.proofs.OpenedFiles.{text_lines}
use Rattle.bearoff_cli.proofs.kinds.has_answer.Goals as goal

pub returns : goal.returns
returns c =
    let text = c.args.lines.now in
    subst (λ lines. IsAnyAnswer (IsAnsweredBy c.args.bound) lines c.any.result) (text_lines text)
    (cases_from_any _ _ c.any.result (λ line. IsAnsweredBy c.args.bound line true)
    (λ line. IsAnsweredBy c.args.bound line false) c.any.ensures.ran
    (YieldsList-from_lines text c.lines.ensures.rest) (λ line f called. search (rules, tests))
    (λ line f called. search (rules, tests)))
