-- The comparison of two positions, and which of them is before the other.
use Rattle.std.proofs.Common.{◌≡◌, ℕ, List, [], ◌∷◌, length, ◌⊎◌, inl, inr, IsTrue, true, refl, arith, rules}
use Rattle.std.specs.declared.cmp.Ordering.{Ordering}
use Rattle.std.specs.declared.cmp.Ordering.TheVariants.{Less, Equal, Greater}
use Rattle.std.specs.Ordering.{nat_cmp, ordering_then}
use Rattle.std.specs.Cmp.{IsTotalOrder}
use Rattle.std.specs.Cmp.Lexicographic.{slice_cmp}
use Rattle.std.specs.Cmp.Rules.{comparing}
use Rattle.std.proofs.lemmas.Bool.Decides.{nat_tests}
use Rattle.race_model.specs.Prelude.{pips, comes_first, is_before}
use Rattle.home_board.specs.Order.{rank_cmp}

-- positions are totally ordered
pub rank_cmp_total : IsTotalOrder rank_cmp
rank_cmp_total = search (comparing, rules)

-- two comparisons one after the other tie only where both do
both_tie : (r s : Ordering) → ordering_then r s ≡ Equal → (r ≡ Equal) × (s ≡ Equal)
both_tie Less s h = absurd (cc)
both_tie Equal s h = (refl, h)
both_tie Greater s h = absurd (cc)

-- equal numbers alone tie
nat_cmp_apart : (m n : ℕ) → nat_cmp m n ≡ Equal → m ≡ n
nat_cmp_apart m n h = grind (arith, nat_tests)

-- equal lists alone tie
slice_cmp_apart : (x y : List ℕ) → slice_cmp nat_cmp x y ≡ Equal → x ≡ y
slice_cmp_apart [] [] h = refl
slice_cmp_apart [] (d ∷ ds) h = absurd (cc)
slice_cmp_apart (c ∷ cs) [] h = absurd (cc)
slice_cmp_apart (c ∷ cs) (d ∷ ds) h =
    let ties = both_tie (nat_cmp c d) (slice_cmp nat_cmp cs ds) h in
    let head = nat_cmp_apart c d ties.0 in
    let rest = slice_cmp_apart cs ds ties.1 in
    cc

-- equal positions alone tie
pub rank_cmp_apart : (x y : List ℕ) → rank_cmp x y ≡ Equal → x ≡ y
rank_cmp_apart x y h =
    slice_cmp_apart x y (both_tie (nat_cmp (pips x) (pips y)) (slice_cmp nat_cmp x y) h).1

-- one of two comparisons, the second where the first ties, says which is less
less_by : (r s : Ordering) → ordering_then r s ≡ Less → (r ≡ Less) ⊎ ((r ≡ Equal) × (s ≡ Less))
less_by Less s h = inl refl
less_by Equal s h = inr (refl, h)
less_by Greater s h = absurd (cc)

-- of two lists of one length, the smaller comes first
comes_first-less : (x y : List ℕ) → length x ≡ length y → slice_cmp nat_cmp x y ≡ Less →
    comes_first x y ≡ true
comes_first-less [] [] e h = absurd (cc)
comes_first-less [] (d ∷ ds) e h = absurd (omega arith)
comes_first-less (c ∷ cs) [] e h = absurd (cc)
comes_first-less (c ∷ cs) (d ∷ ds) e h =
    elim (less_by (nat_cmp c d) (slice_cmp nat_cmp cs ds) h) [
      | inl less ↦ grind (arith, nat_tests)
      | inr tie ↦ grind (arith, nat_tests, comes_first-less cs ds (omega arith) tie.1, tie.0)
    ]

-- of two positions, the smaller one by the comparison is before the other
pub before_less : (x y : List ℕ) → length x ≡ length y → rank_cmp x y ≡ Less →
    IsTrue (is_before x y)
before_less x y e h =
    elim (less_by (nat_cmp (pips x) (pips y)) (slice_cmp nat_cmp x y) h) [
      | inl less ↦ grind (arith, nat_tests)
      | inr tie ↦ grind (arith, nat_tests, comes_first-less x y e tie.1, tie.0)
    ]
