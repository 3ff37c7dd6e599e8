-- The steps of each die from a point.
use Rattle.std.proofs.Common.{◌≡◌, ◌≢◌, ⊎_elim, ℕ, zero, suc, ◌+◌, ◌-◌, ◌<◌, ◌≤◌, List, [], length, get_or, set}
use Rattle.std.proofs.Common.{get_or-set_other, ap, ◌∙◌, refl, arith, slice_index}
use Rattle.std.proofs.lemmas.Bool.{cases_lt}
use Rattle.std.proofs.lemmas.List.{get_or-set_same}
use Rattle.race_model.specs.Prelude.{Board, IsHighest, fewer, more, Die, one, two, three, four, five, six, number}
use Rattle.race_model.specs.Prelude.{StepFrom, bear_off, move_down, from_highest}
use Rattle.race_model.specs.Positions.{count}
use Rattle.race_model.proofs.Dice.Faces.{number_positive}
use Rattle.least_plays.specs.Firsts.{at_die}

-- a step from a point leads where a checker goes from there by the die's pips, or off the board
pub step_to : (x : Board) (d s : ℕ) (y : Board) → StepFrom x d s y →
    y ≡ more (fewer x s) (s - d)
step_to x d s y (bear_off at occupied to) =
    let e : 0 ≡ s - d = omega arith in
    to ∙ ap (λ t. more (fewer x s) t) e
step_to x d s y (move_down below occupied to) = to
step_to x d s y (from_highest empty top to) = ⊎_elim
    (λ low.
    let e : 0 ≡ s - d = omega (arith, low) in
    to ∙ ap (λ t. more (fewer x s) t) e)
    (λ high. absurd (omega (arith, empty s high, top.occupied)))
    (cases_lt s d)

-- a checker can step by as many pips as its point has
pub can_step : (x : Board) (d s : ℕ) → d ≤ s → 0 < count x s →
    StepFrom x d s (more (fewer x s) (s - d))
can_step x d s few occupied = ⊎_elim
    (λ low. move_down low occupied refl)
    (λ high.
    let at : s ≡ d = omega (arith, high, few) in
    let e : s - d ≡ 0 = omega arith in
    bear_off at occupied (ap (λ t. more (fewer x s) t) e))
    (cases_lt d s)

-- the checker on the highest point can step by any number of pips
pub can_step_highest : (x : Board) (d h : ℕ) → IsHighest x h →
    StepFrom x d h (more (fewer x h) (h - d))
can_step_highest x d h top = ⊎_elim
    (λ past.
    let e : h - d ≡ 0 = omega (arith, past) in
    from_highest (λ p le. top.above p (omega (arith, le, past))) top
    (ap (λ t. more (fewer x h) t) e))
    (λ few. can_step x d h few top.occupied)
    (cases_lt h d)

-- below the highest point none can step by more
pub no_step : (x : Board) (d s h : ℕ) (z : Board) → IsHighest x h → s < h → s < d →
    ¬ StepFrom x d s z
no_step x d s h z top low more (bear_off at occupied to) = absurd (omega arith)
no_step x d s h z top low more (move_down below occupied to) = absurd (omega arith)
no_step x d s h z top low more (from_highest empty other to) =
    absurd (omega (arith, other.above h low, top.occupied))

-- each index is that of a die
pub die_of : (i : ℕ) → i < 6 → (d : Die) × (number d ≡ i + 1)
die_of zero lt = (one, refl)
die_of (suc zero) lt = (two, refl)
die_of (suc (suc zero)) lt = (three, refl)
die_of (suc (suc (suc zero))) lt = (four, refl)
die_of (suc (suc (suc (suc zero)))) lt = (five, refl)
die_of (suc (suc (suc (suc (suc zero))))) lt = (six, refl)
die_of (suc (suc (suc (suc (suc (suc i)))))) lt = absurd (omega (arith, lt))

-- a number of a die stays where that of another is written
pub at_die-other : (best : List (List ℕ)) (i : ℕ) (row : List ℕ) (d : Die) (j : ℕ) →
    number d ≢ i + 1 → at_die (set best i row) d j ≡ at_die best d j
at_die-other best i row d j apart =
    ap (λ xs. slice_index xs j)
    (get_or-set_other {A = List ℕ} best i (number d - 1) row []
    (λ e. apart (omega (arith, e, number_positive d))))

-- the number of a die that is written is what was written
pub at_die-same : (best : List (List ℕ)) (i : ℕ) (row : List ℕ) (d : Die) (j : ℕ) →
    number d ≡ i + 1 → i < length best → at_die (set best i row) d j ≡ slice_index row j
at_die-same best i row d j same inside =
    let e : number d - 1 ≡ i = omega arith in
    ap (λ xs. slice_index xs j)
    (ap (λ k. get_or (set best i row) k []) e
    ∙ get_or-set_same {A = List ℕ} best i row [] inside)
