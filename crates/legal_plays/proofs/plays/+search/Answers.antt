use Rattle.std.proofs.Common.{◌≡◌, ℕ, ◌-◌, ◌<◌, ◌⊎◌, inl, inr, length, sym, ◌∙◌, ap, arith, eqb-true}
use Rattle.std.proofs.lemmas.Bool.{eqb-false}
use Rattle.std.proofs.lemmas.Slice.Eq.{bytes_eq-Decides}
use Rattle.race_model.specs.Prelude.{IsFinished}
use Rattle.legal_plays.proofs.PlayLemmas.{first_at_end, run_at_end, first_of_dice, none_below}
use Rattle.legal_plays.proofs.plays.+search.Goals as goal
use Rattle.legal_plays.proofs.plays.+search.Goals.{After-eq, then-is_empty-via-then-is_empty}
use Rattle.legal_plays.proofs.plays.+search.Goals.{then-is_empty-via-else-is_empty+then-is_finished}

-- no die is left, or no checker
at_end : (t : ℕ) (c : After-eq t) → (length c.args.dice.now ≡ 0) ⊎ IsFinished c.args.position.now
at_end t c = elim c.then-is_empty.branch [
  | then-is_empty-via-then-is_empty w ↦
      inl (eqb-true _ _ (sym c.is_empty.ensures ∙ w.if-is_empty.true))
  | then-is_empty-via-else-is_empty+then-is_finished w ↦
      inr (w.is_finished.ensures.value.0 w.if-is_finished.true)
]

pub returns-then-eq-clause-first : goal.returns-then-eq-clause-first
returns-then-eq-clause-first t c =
    let same : c.args.target.now ≡ c.args.position.now =
    sym ((bytes_eq-Decides _ _).0 (sym c.if-eq.ensures)) in
    let end = at_end t (goal.at.returns-then-eq-clause-first t c).After-eq in
    rw c.new.ensures (first_at_end _ _ _ end same)

pub returns-else-eq-clause-none : goal.returns-else-eq-clause-none
returns-else-eq-clause-none t c run =
    let end = at_end t (goal.at.returns-else-eq-clause-none t c).After-eq in
    let same =
    (bytes_eq-Decides c.args.position.now c.args.target.now).1
    (sym (run_at_end _ _ _ end run)) in
    let differ = c.if-eq.ensures in
    cc

pub loop-source-preserved-in_default : goal.loop-source-preserved-in_default
loop-source-preserved-in_default t c =
    none_below _ _ _ _ c.loop-source.source (omega arith) c.loop-source.invariant
    (λ z step run. c.in_default.ensures.none z step)

-- a number that isn't 0 is positive
nonempty : {n : ℕ} → (n ≡ 0 → ⊥) → 0 < n
nonempty h = omega arith

pub returns-in-Some-search-clause-first : goal.returns-in-Some-search-clause-first
returns-in-Some-search-clause-first t c =
    let some : 0 < length c.args.dice.now =
    let e = c.is_empty.ensures in
    let f = c.if-is_empty.false in nonempty (eqb-false _ 0 (sym e ∙ f)) in
    let left : ¬ IsFinished c.args.position.now =
    λ done.
    let e = c.is_finished.ensures.value.1 done in let f = c.if-is_finished.false in cc in
    first_of_dice _ _ c.index-dice-0.result _ _ c.in-Some.after c.in-Some-search.play.items _
    c.insert.ensures.items
    (c.saturating_sub-to.ensures ∙ ap (λ n. c.loop-source.source - n) c.number.ensures.value)
    some c.index-dice-0.is left c.in-Some.ensures.moved c.in-Some-search.ensures.first
    c.loop-source.invariant
