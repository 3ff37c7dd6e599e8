-- What was handed on stands behind the lines that were answered by a help.
use Rattle.std.proofs.Common.{◌≡◌, ◌++◌, ℕ, true, List, [], take, codes, Option, Some, None, refl, sym, ap, ◌∙◌}
use Rattle.std.proofs.Common.{append_assoc, add-one, inr, rules}
use Rattle.std.specs.Io.KnownBytes.{Consumes}
use Rattle.bearoff_cli.specs.TypedLines.{is_help}
use Rattle.bearoff_cli.proofs.prompt.PromptedRead.read.Goals as goal

none_read : (old : Option (List ℕ)) → Consumes old old []
none_read None = tt
none_read (Some xs) = refl

both_read : (old mid new : Option (List ℕ)) (a b : List ℕ) → Consumes old mid a
    → Consumes mid new b → Consumes old new (a ++ b)
both_read None mid new a b first second = tt
both_read (Some xs) None new a b first second = absurd first
both_read (Some xs) (Some ys) None a b first second = absurd second
both_read (Some xs) (Some ys) (Some zs) a b first second =
    first ∙ ap (λ t. a ++ t) second ∙ sym (append_assoc a b zs)

pub loop-help-init : goal.loop-help-init
loop-help-init g c = ([], refl, none_read _)

pub loop-help-preserved : goal.loop-help-preserved
loop-help-preserved g c =
    let so = c.loop-help.invariant in
    let line = take c.in_ok-count.count c.read-in-loop-help.new.buf in
    let help : is_help line ≡ true = search rules in
    rw add-one (
      so.0 ++ line,
      (so.0, line, so.1, help, refl),
      both_read _ _ _ so.0 line so.2 c.in_ok-count.ensures.bytes.0,
    )

pub returns-then-eq-clause-typed : goal.returns-then-eq-clause-typed
returns-then-eq-clause-typed g c =
    let so = c.loop-help.invariant in
    let line : take c.in_ok-count.count c.read-in-loop-help.new.buf ≡ codes "quit\n" =
    search rules in
    inr (
      refl,
      (
        c.loop-help._help,
        so.0,
        so.1,
        both_read _ _ _ so.0 _ so.2
            (rw line at c.in_ok-count.ensures.bytes.0),
      ),
    )
