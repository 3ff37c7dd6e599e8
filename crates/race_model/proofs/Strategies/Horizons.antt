-- How long a game can take: a turn after which a checker remains takes at least 6 from the weight
-- of a position, 2 * pips + checkers, and 1 more where a checker stands above point 1, that is
-- where pips exceed checkers.
use Rattle.std.proofs.Common.{◌≡◌, ◌≢◌, ◌⊎◌, inl, inr, ⊎_elim, ℕ, zero, suc, ◌+◌, ◌*◌, ◌<◌, ◌≤◌}
use Rattle.std.proofs.Common.{List, [], ◌∷◌, get_or, sum, refl, ap, sym, subst, ◌∙◌, arith}
use Rattle.race_model.specs.Prelude.{Board, IsPosition, IsFinished, IsHighest, checkers, pips, pips_from, Die, number}
use Rattle.race_model.specs.Prelude.{Throw, Step, Run, Legal, in_order, in_reverse, double, Strategy, Fits, IsWithin}
use Rattle.race_model.specs.Prelude.{EndsIn, count_of, most_rolls}
use Rattle.race_model.proofs.Numbers.Sums.{sum-cons}
use Rattle.race_model.proofs.Plays.Steps.{Change, moved, borne_off, changed}
use Rattle.race_model.proofs.Dice.Faces.{number_positive, numbers_apart}
use Rattle.race_model.proofs.Strategies.Histories.{fits_within, count_over-beyond}
use Rattle.race_model.proofs.Plays.Results.{finished_or_not}
use Rattle.race_model.proofs.Ranks.RankOrder.{pips-range}

-- each checker counts at least 1
pub sum-at_most_pips : (p : ℕ) (x : List ℕ) → sum x ≤ pips_from (suc p) x
sum-at_most_pips p [] = omega arith
sum-at_most_pips p (c ∷ cs) =
    let rest = sum-at_most_pips (suc p) cs in omega (arith, rest, sum-cons c cs)

-- no checkers have no pips
pips_from-empty : (p : ℕ) (x : List ℕ) → ((k : ℕ) → get_or x k 0 ≡ 0) → pips_from p x ≡ 0
pips_from-empty p [] h = refl
pips_from-empty p (c ∷ cs) h =
    let rest = pips_from-empty (suc p) cs (λ k. h (suc k)) in
    ap (λ n. p * n + pips_from (suc p) cs) (h 0) ∙ omega (arith, rest)

-- where the highest checker stands on point 1, each checker counts 1
pips-aces : (x : Board) → IsHighest x 1 → pips x ≤ checkers x
pips-aces [] top = omega arith
pips-aces (c ∷ cs) top =
    let rest = pips_from-empty 2 cs (λ k. top.above (suc (suc k)) (omega arith)) in
    omega (arith, rest, sum-cons c cs)

-- what a die that shows d does to the pips p and the checkers c
abbrev Lowers : ℕ → ℕ → ℕ → ℕ → ℕ → Type 0
Lowers d p c q e =
    ((q + d ≡ p) × (e ≡ c))
    ⊎ ((s : ℕ) × (0 < s) × ((s ≡ d) ⊎ ((2 ≤ s) ⊎ (p ≤ c))) × (q + s ≡ p) × (e + 1 ≡ c))

-- a step does so
lowers : (x : Board) (d : Die) (y : Board) → Step x d y →
    Lowers (number d) (pips x) (checkers x) (pips y) (checkers y)
lowers x d y goes = by (changed x d y goes)
  where
    off : (s : ℕ) → 0 < s → IsHighest x s ⊎ (s ≡ number d) →
        (s ≡ number d) ⊎ ((2 ≤ s) ⊎ (pips x ≤ checkers x))
    off zero positive from = absurd (omega arith)
    off (suc zero) positive from = ⊎_elim (λ top. inr (inr (pips-aces x top))) (λ at. inl at) from
    off (suc (suc s)) positive from = inr (inl (omega arith))

    by : Change x (number d) y → Lowers (number d) (pips x) (checkers x) (pips y) (checkers y)
    by (moved l) = inl (omega (arith, l.pips_lost), omega (arith, l.checkers_lost))
    by (borne_off s positive _ from l) =
        inr (s, positive, off s positive from, l.pips_lost, l.checkers_lost)

-- a step takes at least 2 from twice the pips and the checkers
takes_two : (d p c q e : ℕ) → 0 < d → Lowers d p c q e → 2 * q + e + 2 ≤ 2 * p + c
takes_two d p c q e positive (inl l) = omega arith
takes_two d p c q e positive (inr l) = omega (arith, l.1, l.3, l.4)

-- the weight is at most 6 * n
abbrev IsShort : ℕ → ℕ → ℕ → Type 0
IsShort n p c = (2 * p + c + 1 ≤ 6 * n) ⊎ ((2 * p + c ≤ 6 * n) × (p ≤ c))

-- two different dice take 6 from the weight
two_dice : (a b p₀ c₀ p₁ c₁ p₂ c₂ n : ℕ) → 0 < a → 0 < b → a ≢ b → c₀ ≤ p₀ → c₁ ≤ p₁ → c₂ ≤ p₂ →
    Lowers a p₀ c₀ p₁ c₁ → Lowers b p₁ c₁ p₂ c₂ → IsShort (suc n) p₀ c₀ → IsShort n p₂ c₂
two_dice a b p₀ c₀ p₁ c₁ p₂ c₂ n ha hb apart h₀ h₁ h₂ l m short = grind arith

-- four dice take more
four_dice : (d p₀ c₀ p₁ c₁ p₂ c₂ p₃ c₃ p₄ c₄ n : ℕ) → 0 < d → Lowers d p₀ c₀ p₁ c₁ →
    Lowers d p₁ c₁ p₂ c₂ → Lowers d p₂ c₂ p₃ c₃ → Lowers d p₃ c₃ p₄ c₄ → IsShort (suc n) p₀ c₀ →
    IsShort n p₄ c₄
four_dice d p₀ c₀ p₁ c₁ p₂ c₂ p₃ c₃ p₄ c₄ n positive l₀ l₁ l₂ l₃ short =
    inl (omega (
      arith,
      takes_two d p₀ c₀ p₁ c₁ positive l₀,
      takes_two d p₁ c₁ p₂ c₂ positive l₁,
      takes_two d p₂ c₂ p₃ c₃ positive l₂,
      takes_two d p₃ c₃ p₄ c₄ positive l₃,
    ))

-- a run that leaves a checker begins with a step
next_step : (d : Die) (dice : List Die) (x y : Board) → ¬ IsFinished y → Run x (d ∷ dice) y →
    (z : Board) × (Step x d z × Run z dice y)
next_step d dice x y unfinished run =
    ⊎_elim (λ still. absurd (unfinished (subst IsFinished (sym still.1) still.0))) (λ goes. goes.1)
    run

-- the weight of a position is at most 6 * n
abbrev Weighs : ℕ → Board → Type 0
Weighs n x = IsShort n (pips x) (checkers x)

-- two different dice that leave a checker take 6 from the weight
two_steps : (a b : Die) (x y : Board) (n : ℕ) → a ≢ b → ¬ IsFinished y → Run x (a ∷ b ∷ []) y →
    Weighs (suc n) x → Weighs n y
two_steps a b x y n apart unfinished run short = by (next_step a (b ∷ []) x y unfinished run)
  where
    end : (z : Board) → Step x a z → (u : Board) × (Step z b u × (y ≡ u)) → Weighs n y
    end z s₁ (u, (s₂, same)) =
        subst (Weighs n) (sym same)
        (two_dice (number a) (number b) (pips x) (checkers x) (pips z) (checkers z) (pips u)
        (checkers u) n (number_positive a) (number_positive b) (numbers_apart a b apart)
        (sum-at_most_pips 0 x) (sum-at_most_pips 0 z) (sum-at_most_pips 0 u)
        (lowers x a z s₁) (lowers z b u s₂) short)

    by : (z : Board) × (Step x a z × Run z (b ∷ []) y) → Weighs n y
    by (z, (s₁, rest)) = end z s₁ (next_step b [] z y unfinished rest)

-- a double that leaves a checker takes more
four_steps : (d : Die) (x y : Board) (n : ℕ) → ¬ IsFinished y → Run x (d ∷ d ∷ d ∷ d ∷ []) y →
    Weighs (suc n) x → Weighs n y
four_steps d x y n unfinished run short = by (next_step d (d ∷ d ∷ d ∷ []) x y unfinished run)
  where
    end : (z₁ z₂ z₃ : Board) → Step x d z₁ → Step z₁ d z₂ → Step z₂ d z₃ →
        (u : Board) × (Step z₃ d u × (y ≡ u)) → Weighs n y
    end z₁ z₂ z₃ s₁ s₂ s₃ (u, (s₄, same)) =
        subst (Weighs n) (sym same)
        (four_dice (number d) (pips x) (checkers x) (pips z₁) (checkers z₁) (pips z₂)
        (checkers z₂) (pips z₃) (checkers z₃) (pips u) (checkers u) n (number_positive d)
        (lowers x d z₁ s₁) (lowers z₁ d z₂ s₂) (lowers z₂ d z₃ s₃) (lowers z₃ d u s₄)
        short)

    third : (z₁ z₂ : Board) → Step x d z₁ → Step z₁ d z₂ →
        (z₃ : Board) × (Step z₂ d z₃ × Run z₃ (d ∷ []) y) → Weighs n y
    third z₁ z₂ s₁ s₂ (z₃, (s₃, rest)) =
        end z₁ z₂ z₃ s₁ s₂ s₃ (next_step d [] z₃ y unfinished rest)

    second : (z₁ : Board) → Step x d z₁ → (z₂ : Board) × (Step z₁ d z₂ × Run z₂ (d ∷ d ∷ []) y) →
        Weighs n y
    second z₁ s₁ (z₂, (s₂, rest)) = third z₁ z₂ s₁ s₂ (next_step d (d ∷ []) z₂ y unfinished rest)

    by : (z : Board) × (Step x d z × Run z (d ∷ d ∷ d ∷ []) y) → Weighs n y
    by (z₁, (s₁, rest)) = second z₁ s₁ (next_step d (d ∷ d ∷ []) z₁ y unfinished rest)

-- a throw that leaves a checker takes 6 from the weight
throw_takes : (x : Board) (v : Throw) (y : Board) (n : ℕ) → ¬ IsFinished y → Legal x v y →
    Weighs (suc n) x → Weighs n y
throw_takes x v y n unfinished (in_order apart run) short =
    two_steps v.first v.second x y n apart unfinished run short
throw_takes x v y n unfinished (in_reverse apart run) short =
    two_steps v.second v.first x y n (λ e. apart (sym e)) unfinished run short
throw_takes x v y n unfinished (double same run) short =
    four_steps v.first x y n unfinished run short

-- from the finished position no game goes on
pub ends_at_once : (n : ℕ) (x : Board) → IsFinished x → EndsIn n x
ends_at_once zero x none = none
ends_at_once (suc n) x none = λ unfinished v y goes. absurd (unfinished none)

-- a game from a position of weight 6 * n is over within n rolls
ends_by_weight : (n : ℕ) (x : Board) → Weighs n x → EndsIn n x
ends_by_weight zero x short = none (pips x) (checkers x) short
  where
    none : (p c : ℕ) → IsShort 0 p c → c ≡ 0
    none p c h = omega arith
ends_by_weight (suc n) x short =
    λ unfinished v y goes.
    ⊎_elim (λ none. ends_at_once n y none)
    (λ left. ends_by_weight n y (throw_takes x v y n left goes short)) (finished_or_not y)

-- a position of at most 58 pips is over within 22 rolls
pub ends_in_22 : (x : Board) → IsPosition x → pips x ≤ 58 → EndsIn 22 x
ends_in_22 x at low = ends_by_weight 22 x (inl (omega (arith, at.few)))

-- any position is over within 33 rolls
pub ends_in_33 : (x : Board) → IsPosition x → EndsIn 33 x
ends_in_33 x at = ends_by_weight 33 x (inl (omega (arith, at.few, pips-range x at)))

-- a position is over within the most rolls of its pip count
pub ends_in_most : (x : Board) → IsPosition x → EndsIn (most_rolls (pips x)) x
ends_in_most x at = by (pips x) (checkers x) refl refl (sum-at_most_pips 0 x) at.few
  where
    by : (p c : ℕ) → pips x ≡ p → checkers x ≡ c → c ≤ p → c ≤ 15 → EndsIn (most_rolls p) x
    by zero c ep ec below few = omega (arith, ec)
    by (suc p) c ep ec below few =
        ends_by_weight (most_rolls (suc p)) x (inl (omega (arith, ep, ec)))

-- a strategy from at most 58 pips has at most 22 turns on any path
pub within_22 : (x : Board) (s : Strategy) → IsPosition x → pips x ≤ 58 → Fits s x → IsWithin 22 s
within_22 x s at low fits = fits_within 22 x s (ends_in_22 x at low) fits

-- a strategy has at most the most rolls of its pip count as turns on any path
pub within_most : (x : Board) (s : Strategy) → IsPosition x → Fits s x →
    IsWithin (most_rolls (pips x)) s
within_most x s at fits = fits_within (most_rolls (pips x)) x s (ends_in_most x at) fits

-- a strategy never needs more rolls than the most of its pip count
pub count_of-beyond : (x : Board) (s : Strategy) (k : ℕ) → IsPosition x → Fits s x →
    most_rolls (pips x) < k → count_of s k ≡ 0
count_of-beyond x s k at fits beyond =
    count_over-beyond 22 (most_rolls (pips x)) k s (within_most x s at fits) beyond

-- to 58 pips the most rolls are at most 22
pub most_rolls-most : (p : ℕ) → p ≤ 58 → most_rolls p ≤ 22
most_rolls-most zero low = omega arith
most_rolls-most (suc p) low = omega arith

-- and on the whole board at most 33
pub most_rolls-board : (p : ℕ) → p ≤ 90 → most_rolls p ≤ 33
most_rolls-board zero low = omega arith
most_rolls-board (suc p) low = omega arith
