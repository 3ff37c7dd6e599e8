-- The steps of a die.
use Rattle.std.proofs.Common.{◌≡◌, ℕ, zero, suc, ◌+◌, ◌<◌, ◌≤◌, List, length, get_or, ◌⊎◌, inl, inr, ◌↔◌, refl, sym}
use Rattle.std.proofs.Common.{subst, arith, sum}
use Rattle.std.proofs.lemmas.Bool.{cases_lt}
use Rattle.std.proofs.lemmas.List.{get_or_past}
use Rattle.std.proofs.lemmas.List.Sums.{get_or-le-sum_by}
use Rattle.race_model.specs.Prelude.{Board, IsFinished, IsHighest, Die, number, StepFrom, Step}
use Rattle.race_model.specs.Positions.{count}
use Rattle.race_model.proofs.Plays.Enumerated.{from_occupied}
use Rattle.race_model.proofs.Plays.PlayOrder.{one_step}

-- a step from one of the points below a limit
abbrev pub StepBelow : Board → Die → ℕ → Board → Type 0
StepBelow x d limit y = (s : ℕ) × (s < limit) × StepFrom x (number d) s y

-- no count is greater than all together
get_or-sum : (x : List ℕ) (i : ℕ) → get_or x i 0 ≤ sum x
get_or-sum x i =
    elim (cases_lt i (length x)) [
      | inl there ↦ get_or-le-sum_by (λ n. n) x i 0 there
      | inr past ↦ omega (arith, get_or_past x i 0 past)
    ]

-- no point of a finished position has a checker
pub count-finished : (x : Board) (p : ℕ) → IsFinished x → count x p ≡ 0
count-finished x zero done = refl
count-finished x (suc i) done = omega (arith, get_or-sum x i)

-- no step starts above the highest point
pub step_source : (x : Board) (h d s : ℕ) (y : Board) → (h ≡ 0 → IsFinished x) →
    (0 < h → IsHighest x h) → StepFrom x d s y → s ≤ h
step_source x zero d s y none top step =
    absurd (omega (arith, from_occupied x d s y step, count-finished x s (none refl)))
step_source x (suc h) d s y none top step =
    elim (cases_lt (suc h) s) [
      | inl past ↦
          absurd (omega (arith, from_occupied x d s y step, (top (omega arith)).above s past))
      | inr within ↦ within
    ]

-- all steps start below a limit above the highest point
pub all_steps : (x : Board) (h : ℕ) (d : Die) (limit : ℕ) (y : Board) → (h ≡ 0 → IsFinished x) →
    (0 < h → IsHighest x h) → h < limit → StepBelow x d limit y ↔ Step x d y
all_steps x h d limit y none top past = (
  λ below. (below.0, below.2),
  λ step.
      (step.0, omega (arith, step_source x h (number d) step.0 y none top step.1), step.1),
)

-- the steps below the next limit, where the die makes a step from this point
pub one_more_step : (x : Board) (d : Die) (s : ℕ) (z y : Board) (Old Before Now : Type 0) →
    StepFrom x (number d) s z
    → (Now ↔ (Before ⊎ (y ≡ z))) → (Before ↔ (Old ⊎ StepBelow x d s y)) →
    Now ↔ (Old ⊎ StepBelow x d (s + 1) y)
one_more_step x d s z y Old Before Now step now before = (there, back)
  where
    there : Now → Old ⊎ StepBelow x d (s + 1) y
    there h = elim (now.0 h) [
      | inl was ↦
          elim (before.0 was)
          [ inl old ↦ inl old | inr below ↦ inr (below.0, omega (arith, below.1), below.2) ]
      | inr new ↦ inr (s, omega arith, subst (StepFrom x (number d) s) (sym new) step)
    ]

    back : Old ⊎ StepBelow x d (s + 1) y → Now
    back h = elim h [
      | inl old ↦ now.1 (inl (before.1 (inl old)))
      | inr below ↦ elim (cases_lt below.0 s) [
        | inl low ↦ now.1 (inl (before.1 (inr (below.0, low, below.2))))
        | inr high ↦
            let same : below.0 ≡ s = omega (arith, below.1) in
            now.1 (inr (one_step x (number d) s y z
            (subst (λ p. StepFrom x (number d) p y) same below.2) step))
      ]
    ]

-- the steps below the next limit, where the die makes no step from this point
pub no_more_step : (x : Board) (d : Die) (s : ℕ) (y : Board) (Old Now : Type 0) →
    ((z : Board) → ¬ StepFrom x (number d) s z)
    → (Now ↔ (Old ⊎ StepBelow x d s y)) → Now ↔ (Old ⊎ StepBelow x d (s + 1) y)
no_more_step x d s y Old Now none now = (there, back)
  where
    there : Now → Old ⊎ StepBelow x d (s + 1) y
    there h =
        elim (now.0 h)
        [ inl old ↦ inl old | inr below ↦ inr (below.0, omega (arith, below.1), below.2) ]

    back : Old ⊎ StepBelow x d (s + 1) y → Now
    back h = elim h [
      | inl old ↦ now.1 (inl old)
      | inr below ↦ elim (cases_lt below.0 s) [
        | inl low ↦ now.1 (inr (below.0, low, below.2))
        | inr high ↦
            let same : below.0 ≡ s = omega (arith, below.1) in
            absurd (none y (subst (λ p. StepFrom x (number d) p y) same below.2))
      ]
    ]

-- what was added by all steps
pub only_steps : (x : Board) (h : ℕ) (d : Die) (limit : ℕ) (y : Board) (Old Now : Type 0) →
    (h ≡ 0 → IsFinished x) → (0 < h → IsHighest x h) → h < limit
    → (Now ↔ (Old ⊎ StepBelow x d limit y)) → Now ↔ (Old ⊎ Step x d y)
only_steps x h d limit y Old Now none top past now = (there, back)
  where
    steps : StepBelow x d limit y ↔ Step x d y
    steps = all_steps x h d limit y none top past

    there : Now → Old ⊎ Step x d y
    there got = elim (now.0 got) [ inl old ↦ inl old | inr below ↦ inr (steps.0 below) ]

    back : Old ⊎ Step x d y → Now
    back got = elim got [ inl old ↦ now.1 (inl old) | inr step ↦ now.1 (inr (steps.1 step)) ]
