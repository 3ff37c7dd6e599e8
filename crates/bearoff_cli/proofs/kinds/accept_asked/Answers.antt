-- A file whose header states the version of board files is no right database.
use Rattle.std.proofs.Common.{◌≡◌, ℕ, List, Result, Ok, Err, IfErr, subst, sym, ◌∙◌}
use Rattle.std.proofs.lemmas.Bool.{false≢true}
use Rattle.race_model.specs.Prelude.{IsRight}
use Rattle.epc_query.specs.Kinds.{IsRightAs}
use Rattle.epc_query.proofs.FileBooks.{right_stated}
use Rattle.db_layout.specs.declared.stated.Kind.{Kind}
use Rattle.db_layout.specs.declared.stated.Kind.TheVariants.{Database}
use Rattle.bearoff_cli.specs.Kinds.{taken_as}
use Rattle.bearoff_cli.proofs.OpenedFiles.{no_database}
use Rattle.bearoff_cli.proofs.kinds.accept_asked.Goals as goal

-- what holds anyway holds at Err
on_err : {A E : Type 0} (r : Result A E) (P : Type 0) → P → IfErr r (λ _. P)
on_err (Ok x) P h = tt
on_err (Err e) P h = h

-- what is no right file is none of the kind that its header states
not_taken : (asked : Kind) (f : List ℕ) → asked ≡ Database → ¬ IsRight f
    → ¬ IsRightAs (taken_as asked f) f
not_taken asked f same not right =
    not (right_stated f (subst (λ kind. IsRightAs (taken_as kind f) f) same right))

pub returns-in_err-accept_as-in-Board-stated_kind-clause-wrong :
    goal.returns-in_err-accept_as-in-Board-stated_kind-clause-wrong
returns-in_err-accept_as-in-Board-stated_kind-clause-wrong c =
    on_err c.from_residual.result _ (not_taken c.args.asked c.args.bytes.now c.in-Database.is
    (λ right. false≢true ((c.in-Err.ensures {u = tt}).right.1 right)))

pub returns-in-Database-stated_kind-clause-wrong : goal.returns-in-Database-stated_kind-clause-wrong
returns-in-Database-stated_kind-clause-wrong c =
    not_taken c.args.asked c.args.bytes.now c.in-Database.is
    (λ right. false≢true ((c.in-Err.ensures {u = tt}).right.1 right))

pub returns-in_err-accept_as-in-Board-clause-wrong :
    goal.returns-in_err-accept_as-in-Board-clause-wrong
returns-in_err-accept_as-in-Board-clause-wrong c =
    on_err c.from_residual-in_err-accept_as-in-Board.result _ (rw c.in-Board.is (λ right.
    false≢true ((c.in_err-accept_as-in-Board.ensures {u = tt}).right.1 right)))

pub returns-in_ok-accept_as-in-Board-stated_kind-clause-accepted :
    goal.returns-in_ok-accept_as-in-Board-stated_kind-clause-accepted
returns-in_ok-accept_as-in-Board-stated_kind-clause-accepted c =
    absurd (no_database c.args.bytes.now
    (sym c.stated_kind.ensures ∙ c.in-Board-stated_kind.is)
    (c.in_ok-accept_as-in-Board-stated_kind.ensures {u = tt}).accepted.right)

pub returns-in_ok-accept_as-in-Board-clause-accepted :
    goal.returns-in_ok-accept_as-in-Board-clause-accepted
returns-in_ok-accept_as-in-Board-clause-accepted c =
    rw c.in-Board.is (c.in_ok-accept_as-in-Board.ensures {u = tt}).accepted
