-- The counts that a record tells.
use Rattle.std.proofs.Common.{◌≡◌, ℕ, zero, suc, ◌-◌, ◌*◌, ◌^◌, ◌<◌, ◌≤◌, List, refl, ap, ap₂, subst, arith}
use Rattle.std.proofs.Math.Nat.{one-le-pow, mul-pos}
use Rattle.race_model.specs.Prelude.{pips, at_rank, count_to, most_rolls, bound_of, board_record, count_parts}
use Rattle.race_model.specs.Prelude.{told_count, count_at, IsRightBoard}
use Rattle.fixed_fraction.specs.Board.{part}
use Rattle.fixed_fraction.proofs.TwoParts.{power_in_parts, power_within}
use Rattle.epc_query.proofs.BoardKnown.{known_count_at, known_lower_count}

-- what the record of a rank tells is what the file tells for the rank
pub told_at : (f bytes : List ℕ) (r p k : ℕ) → p ≡ pips (at_rank r) →
    bytes ≡ board_record f r → told_count p bytes k ≡ count_at f r k
unfolding count_at
told_at f bytes r p k pips_are same = ap₂ (λ n b. told_count n b k) pips_are same

-- a count that is read of the record of a rank can be told, and what it is
pub tells_count : (f bytes : List ℕ) (r p k : ℕ) → IsRightBoard f → r < count_to (bound_of f) →
    p ≡ pips (at_rank r) → bytes ≡ board_record f r → k ≤ 33 →
    (told_count p bytes k ≤ 36 ^ k)
    × (11 < k → k ≤ most_rolls p → (count_parts bytes k).lower < part)
tells_count f bytes r p k right under pips_are same few = (
  omega (arith, told_at f bytes r p k pips_are same, known_count_at f right r under k few),
  λ many most. omega (
    arith,
    known_lower_count f right r under k few many (subst (λ n. k ≤ most_rolls n) pips_are most),
    ap (λ b. (count_parts b k).lower) same,
  ),
)

-- 36 ^ k as an upper part, for k from 11 to 33
pub power_of_upper : (k : ℕ) → 11 ≤ k → k ≤ 33 →
    (36 ^ (k - 11) * part ≡ 36 ^ k) × (36 ^ (k - 11) ≤ 36 ^ 22)
power_of_upper k some few = (power_in_parts k some, power_within (k - 11) 22 (omega arith))

-- where no sequence is counted there is no share
pub no_share : (n k share : ℕ) → n * 36 ^ (33 - k) ≡ share → n ≡ 0 → share ≡ 0
no_share zero k share is none = omega (arith, is)
no_share (suc n) k share is none = absurd (omega (arith, none))

-- where some are there is one
pub some_share : (n k share : ℕ) → n * 36 ^ (33 - k) ≡ share → ¬ (n ≡ 0) → 0 < share
some_share zero k share is some = absurd (some refl)
some_share (suc n) k share is some =
    subst (λ m. 0 < m) is (mul-pos (omega arith) (one-le-pow (33 - k) 36 (omega arith)))
