-- Throws and rolls: a throw and its reverse do the same, and each throw or its reverse is a roll.
use Rattle.std.proofs.Common.{◌≡◌, ◌⊎◌, ⊎_elim, ℕ, ◌+◌, ◌-◌, ◌*◌, ◌/◌, min, max, ◌<◌, ◌≤◌, List, []}
use Rattle.std.proofs.Common.{◌∷◌, refl, sym, subst, ap₂, below_more, below_none, arith, lit<, lit≤}
use Rattle.race_model.specs.Prelude.{Board, Die, one, two, three, four, five, six, number, Throw, reversed, IsRoll}
use Rattle.race_model.specs.Prelude.{all_rolls, roll_at, roll_index, Legal, in_order, in_reverse, double, Run, Book}
use Rattle.race_model.specs.Prelude.{mean_in, IsPlayedIn, book_of, rank, at_rank, IsBestIn, IsPlayed, IsBest}

-- a throw leads where its reverse leads
pub legal_reversed : (x : Board) (v : Throw) (y : Board) → Legal x v y → Legal x (reversed v) y
legal_reversed x v y (in_order apart run) = in_reverse (λ e. apart (sym e)) run
legal_reversed x v y (in_reverse apart run) = in_order (λ e. apart (sym e)) run
legal_reversed x v y (double same run) =
    double (sym same) (subst (λ d. Run x (d ∷ d ∷ d ∷ d ∷ []) y) same run)

-- the index of a throw is that of its reverse
pub roll_index-reversed : (v : Throw) → roll_index (reversed v) ≡ roll_index v
roll_index-reversed v =
    ap₂ (λ high low. high * (high - 1) / 2 + low - 1) (maxima (number v.second) (number v.first))
    (minima (number v.second) (number v.first))
  where
    maxima : (a b : ℕ) → max a b ≡ max b a
    maxima a b = omega arith

    minima : (a b : ℕ) → min a b ≡ min b a
    minima a b = omega arith

-- a throw or its reverse is a roll
pub roll_or_reversed : (v : Throw) → IsRoll v ⊎ IsRoll (reversed v)
roll_or_reversed v = grind arith

-- the index has a roll, and the roll has that index
abbrev IsRollOf : ℕ → Type 0
IsRollOf i = IsRoll (roll_at i) × (roll_index (roll_at i) ≡ i)

-- each index has a roll, and the roll has that index
pub roll_of_index : (i : ℕ) → i < 21 → IsRoll (roll_at i) × (roll_index (roll_at i) ≡ i)
unfolding roll_at all_rolls
roll_of_index =
    below_more IsRollOf 20 (below_more IsRollOf 19 (below_more IsRollOf 18 (
    below_more IsRollOf 17 (below_more IsRollOf 16 (below_more IsRollOf 15 (
    below_more IsRollOf 14 (below_more IsRollOf 13 (below_more IsRollOf 12 (
    below_more IsRollOf 11 (below_more IsRollOf 10 (below_more IsRollOf 9 (
    below_more IsRollOf 8 (below_more IsRollOf 7 (below_more IsRollOf 6 (
    below_more IsRollOf 5 (below_more IsRollOf 4 (below_more IsRollOf 3 (
    below_more IsRollOf 2 (below_more IsRollOf 1 (below_more IsRollOf 0 (below_none IsRollOf)
    (lit≤ tt, refl)) (lit≤ tt, refl)) (lit≤ tt, refl)) (lit≤ tt, refl)) (lit≤ tt, refl))
    (lit≤ tt, refl)) (lit≤ tt, refl)) (lit≤ tt, refl)) (lit≤ tt, refl)) (lit≤ tt, refl))
    (lit≤ tt, refl)) (lit≤ tt, refl)) (lit≤ tt, refl)) (lit≤ tt, refl)) (lit≤ tt, refl))
    (lit≤ tt, refl)) (lit≤ tt, refl)) (lit≤ tt, refl)) (lit≤ tt, refl)) (lit≤ tt, refl))
    (lit≤ tt, refl)

-- each roll has an index, and is the roll of that index
index_of_dice : (a b : Die) → number b ≤ number a →
    (roll_index (record { first = a; second = b }) < 21)
    × (roll_at (roll_index (record { first = a; second = b }))
    ≡ record { first = a; second = b })
unfolding roll_at all_rolls
index_of_dice one one h = (lit< tt, refl)
index_of_dice one two h = absurd (omega arith)
index_of_dice one three h = absurd (omega arith)
index_of_dice one four h = absurd (omega arith)
index_of_dice one five h = absurd (omega arith)
index_of_dice one six h = absurd (omega arith)
index_of_dice two one h = (lit< tt, refl)
index_of_dice two two h = (lit< tt, refl)
index_of_dice two three h = absurd (omega arith)
index_of_dice two four h = absurd (omega arith)
index_of_dice two five h = absurd (omega arith)
index_of_dice two six h = absurd (omega arith)
index_of_dice three one h = (lit< tt, refl)
index_of_dice three two h = (lit< tt, refl)
index_of_dice three three h = (lit< tt, refl)
index_of_dice three four h = absurd (omega arith)
index_of_dice three five h = absurd (omega arith)
index_of_dice three six h = absurd (omega arith)
index_of_dice four one h = (lit< tt, refl)
index_of_dice four two h = (lit< tt, refl)
index_of_dice four three h = (lit< tt, refl)
index_of_dice four four h = (lit< tt, refl)
index_of_dice four five h = absurd (omega arith)
index_of_dice four six h = absurd (omega arith)
index_of_dice five one h = (lit< tt, refl)
index_of_dice five two h = (lit< tt, refl)
index_of_dice five three h = (lit< tt, refl)
index_of_dice five four h = (lit< tt, refl)
index_of_dice five five h = (lit< tt, refl)
index_of_dice five six h = absurd (omega arith)
index_of_dice six one h = (lit< tt, refl)
index_of_dice six two h = (lit< tt, refl)
index_of_dice six three h = (lit< tt, refl)
index_of_dice six four h = (lit< tt, refl)
index_of_dice six five h = (lit< tt, refl)
index_of_dice six six h = (lit< tt, refl)

-- each roll has an index, and is the roll of that index
pub index_of_roll : (v : Throw) → IsRoll v → (roll_index v < 21) × (roll_at (roll_index v) ≡ v)
index_of_roll v h = index_of_dice v.first v.second h

-- what holds by the index of each roll holds of the 36 throws, if it holds of a throw where it
-- holds of its reverse
pub by_rolls : (P : ℕ → Throw → Type 0) →
    ((i : ℕ) (v : Throw) → P i (reversed v) → P i v) →
    ((v : Throw) → IsRoll v → P (roll_index v) v) → (v : Throw) → P (roll_index v) v
by_rolls P turned h v = ⊎_elim (λ r. h v r)
    (λ r.
    subst (λ i. P i v) (roll_index-reversed v)
    (turned (roll_index (reversed v)) v (h (reversed v) r)))
    (roll_or_reversed v)

-- what a book says for the 21 rolls is so for the 36 throws
pub played_by_rolls : (b : Book) (x : Board) → ((v : Throw) → IsRoll v → IsPlayedIn b x v) →
    (v : Throw) → IsPlayedIn b x v
played_by_rolls b x h v = record {
  ranked =
      by_rolls (λ i u. rank (at_rank (b.plays (rank x) i)) ≡ b.plays (rank x) i) (λ i u e. e)
      (λ u r. (h u r).ranked) v;
  legal =
      by_rolls (λ i u. Legal x u (at_rank (b.plays (rank x) i)))
      (λ i u. legal_reversed x (reversed u) (at_rank (b.plays (rank x) i)))
      (λ u r. (h u r).legal) v;
}

-- plays that are least for the 21 rolls are least for the 36 throws
pub best_by_rolls : (b : Book) (x : Board) → ((v : Throw) → IsRoll v → IsBestIn b x v) →
    (v : Throw) → IsBestIn b x v
best_by_rolls b x =
    by_rolls (λ i u. (z : Board) → Legal x u z → b.means (b.plays (rank x) i) ≤ mean_in b z)
    (λ i u best z legal. best z (legal_reversed x u z legal))

-- what holds for the roll of each index holds for each roll
pub by_index : (P : Throw → Type 0) → ((i : ℕ) → i < 21 → P (roll_at i)) → (v : Throw) → IsRoll v →
    P v
by_index P h v r = let place = index_of_roll v r in subst P place.1 (h (roll_index v) place.0)

-- plays recorded for the 21 indices are recorded for the 36 throws
pub played_by_index : (f : List ℕ) (x : Board) → ((i : ℕ) → i < 21 → IsPlayed f x (roll_at i)) →
    (v : Throw) → IsPlayed f x v
played_by_index f x h = played_by_rolls (book_of f) x (by_index (IsPlayed f x) h)

-- plays that are least for the 21 indices are least for the 36 throws
pub best_by_index : (f : List ℕ) (x : Board) → ((i : ℕ) → i < 21 → IsBest f x (roll_at i)) →
    (v : Throw) → IsBest f x v
best_by_index f x h = best_by_rolls (book_of f) x (by_index (IsBest f x) h)
