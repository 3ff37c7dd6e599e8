-- The ranks of the positions of one pip count, and the means of some ranks.
use Rattle.std.proofs.Common.{◌≡◌, ◌↔◌, ◌⊎◌, inl, inr, ℕ, zero, suc, ◌+◌, ◌*◌, ◌/◌, ◌%◌, ◌<◌, ◌≤◌, min, max, List, []}
use Rattle.std.proofs.Common.{◌∷◌, refl, ap, sym, subst, ◌∙◌, arith, below_more}
use Rattle.std.proofs.lemmas.Bool.{cases_lt}
use Rattle.race_model.specs.Prelude.{Board, IsPosition, pips, rank, at_rank, count_to, first_of, mean_at, book_of, Book}
use Rattle.race_model.specs.Prelude.{mean_in, IsLevel, IsLevelIn}
use Rattle.epc_query.specs.LevelMeans.{AreMeansOf}

-- some position has this pip count
pub some_position : (p : ℕ) → p ≤ 90 → (x : Board) × IsPosition x × (pips x ≡ p)
some_position p low = by (p / 6) (p % 6) (omega arith) (omega arith)
  where
    by : (q r : ℕ) → p ≡ 6 * q + r → r < 6 → (x : Board) × IsPosition x × (pips x ≡ p)
    by q zero e h = (
      0 ∷ 0 ∷ 0 ∷ 0 ∷ 0 ∷ q ∷ [],
      record { six = refl; few = omega arith },
      omega arith,
    )
    by q (suc zero) e h = (
      1 ∷ 0 ∷ 0 ∷ 0 ∷ 0 ∷ q ∷ [],
      record { six = refl; few = omega arith },
      omega arith,
    )
    by q (suc (suc zero)) e h = (
      0 ∷ 1 ∷ 0 ∷ 0 ∷ 0 ∷ q ∷ [],
      record { six = refl; few = omega arith },
      omega arith,
    )
    by q (suc (suc (suc zero))) e h = (
      0 ∷ 0 ∷ 1 ∷ 0 ∷ 0 ∷ q ∷ [],
      record { six = refl; few = omega arith },
      omega arith,
    )
    by q (suc (suc (suc (suc zero)))) e h = (
      0 ∷ 0 ∷ 0 ∷ 1 ∷ 0 ∷ q ∷ [],
      record { six = refl; few = omega arith },
      omega arith,
    )
    by q (suc (suc (suc (suc (suc zero))))) e h = (
      0 ∷ 0 ∷ 0 ∷ 0 ∷ 1 ∷ q ∷ [],
      record { six = refl; few = omega arith },
      omega arith,
    )
    by q (suc (suc (suc (suc (suc (suc r)))))) e h = absurd (omega arith)

-- no ranks
pub no_means : (mean : ℕ → ℕ) (first end least greatest : ℕ) → end ≤ first
    → AreMeansOf mean first end least greatest
no_means mean first end least greatest none = record {
  least_reached = λ h. absurd (omega arith);
  none_under = λ r low high. absurd (omega arith);
  greatest_reached = λ h. absurd (omega arith);
  none_over = λ r low high. absurd (omega arith);
}

-- one rank
pub one_mean : (mean : ℕ → ℕ) (first n : ℕ) → n ≡ mean first
    → AreMeansOf mean first (first + 1) n n
one_mean mean first n e = record {
  least_reached = λ _. (first, omega arith, omega arith, sym e);
  none_under = λ r low high.
      let same : first ≡ r = omega arith in
      omega (arith, e, ap mean same);
  greatest_reached = λ _. (first, omega arith, omega arith, sym e);
  none_over = λ r low high.
      let same : first ≡ r = omega arith in
      omega (arith, e, ap mean same);
}

-- the mean is that of a rank from the first on and before the end
abbrev IsReached : (ℕ → ℕ) → ℕ → ℕ → ℕ → Type 0
IsReached mean first end n = (r : ℕ) × (first ≤ r) × (r < end) × (mean r ≡ n)

-- with one rank more, its mean or one that was reached is reached
reached_more : (mean : ℕ → ℕ) (first r kept n chosen : ℕ) → first ≤ r → n ≡ mean r
    → (first < r → IsReached mean first r kept) → (first ≡ r → chosen ≡ n)
    → (chosen ≡ n) ⊎ (chosen ≡ kept) → IsReached mean first (r + 1) chosen
reached_more mean first r kept n chosen within e before fresh either = elim (cases_lt first r) [
  | inl some ↦ elim either [
    | inl new ↦ (r, within, omega arith, sym e ∙ sym new)
    | inr old ↦ let w = before some in (w.0, w.1, omega (arith, w.2), w.3 ∙ sym old)
  ]
  | inr none ↦ (r, within, omega arith, sym e ∙ sym (fresh (omega arith)))
]

-- one rank more
pub more_means : (mean : ℕ → ℕ) (first r least greatest n : ℕ) → first ≤ r
    → AreMeansOf mean first r least greatest → n ≡ mean r
    → (first ≡ r → n ≤ least) → (first ≡ r → greatest ≤ n) → AreMeansOf mean first (r + 1)
    (min least n) (max greatest n)
more_means mean first r least greatest n within are e fresh_least fresh_greatest = record {
  least_reached = λ _.
      reached_more mean first r least n (min least n) within e are.least_reached
      (λ same. let low = fresh_least same in omega arith)
      (elim (cases_lt n least) [ inl lt ↦ inl (omega arith) | inr not ↦ inr (omega arith) ]);
  none_under = λ k low high.
      below_more (λ j. first ≤ j → min least n ≤ mean j) r
      (λ j lt from. omega (arith, are.none_under j from lt)) (λ _. omega (arith, e)) k high low;
  greatest_reached = λ _.
      reached_more mean first r greatest n (max greatest n) within e are.greatest_reached
      (λ same. let high = fresh_greatest same in omega arith)
      (elim (cases_lt greatest n) [ inl lt ↦ inl (omega arith) | inr not ↦ inr (omega arith) ]);
  none_over = λ k low high.
      below_more (λ j. first ≤ j → mean j ≤ max greatest n) r
      (λ j lt from. omega (arith, are.none_over j from lt)) (λ _. omega (arith, e)) k high low;
}

-- the ranks of a pip count are those of its positions
module _ (found : (x : Board) → IsPosition x → at_rank (rank x) ≡ x)
    (within : (x : Board) (bound : ℕ) → IsPosition x → (rank x < count_to bound)
    ↔ (pips x ≤ bound))
    (position : (r : ℕ) → IsPosition (at_rank r))
    (under : (bound r : ℕ) → r < count_to bound → (rank (at_rank r) ≡ r)
    × (pips (at_rank r) ≤ bound))
    (none : first_of 0 ≡ 0) (next : (m : ℕ) → first_of (m + 1) ≡ count_to m) where
  -- the first rank of a pip count is past those of fewer
  start : (m : ℕ) → first_of (suc m) ≡ count_to m
  start m = let e : m + 1 ≡ suc m = omega arith in subst (λ n. first_of n ≡ count_to m) e (next m)

  -- a position has no lower rank than the first of its pip count
  not_below : (p : ℕ) (x : Board) → IsPosition x → pips x ≡ p → first_of p ≤ rank x
  not_below zero x is e = omega (arith, none)
  not_below (suc m) x is e =
      elim (cases_lt (rank x) (count_to m)) [
        | inl low ↦ absurd (omega (arith, (within x m is).0 low))
        | inr high ↦ omega (arith, start m)
      ]

  -- and only positions of as many pips have a rank from the first on
  not_fewer : (p r : ℕ) → first_of p ≤ r → r < count_to p → p ≤ pips (at_rank r)
  not_fewer zero r low high = omega arith
  not_fewer (suc m) r low high =
      elim (cases_lt (pips (at_rank r)) (suc m)) [
        | inl fewer ↦
            let here = (within (at_rank r) m (position r)).1 (omega arith) in
            absurd (omega (arith, here, (under (suc m) r high).0, start m))
        | inr enough ↦ enough
      ]

  -- there is a rank of each pip count
  pub some_rank : (p : ℕ) → p ≤ 90 → first_of p < count_to p
  some_rank p low =
      let x = some_position p low in
      omega (arith, not_below p x.0 x.1 x.2, (within x.0 p x.1).1 (omega (arith, x.2)))

  -- the means of the ranks of a pip count are those of its positions
  pub level_in : (b : Book) (p least greatest : ℕ) → p ≤ 90 → AreMeansOf b.means (first_of p)
      (count_to p) least greatest → IsLevelIn b p least greatest
  level_in b p least greatest low are =
      let some = some_rank p low in
      record {
        least_reached = at least (are.least_reached some);
        none_under = λ x is e. are.none_under (rank x) (not_below p x is e)
            ((within x p is).1 (omega (arith, e)));
        greatest_reached = at greatest (are.greatest_reached some);
        none_over = λ x is e. are.none_over (rank x) (not_below p x is e)
            ((within x p is).1 (omega (arith, e)));
      }
    where
      at : (n : ℕ) → IsReached b.means (first_of p) (count_to p) n →
          (x : Board) × IsPosition x × (pips x ≡ p) × (mean_in b x ≡ n)
      at n (r, first, last, is) =
          let few = (under p r last).1 in
          let many = not_fewer p r first last in
          (at_rank r, position r, omega arith, ap b.means (under p r last).0 ∙ is)

  -- the means of the ranks of a pip count by a file are those of its positions
  pub level_means : (f : List ℕ) (p least greatest : ℕ) → p ≤ 90 → AreMeansOf (mean_at f)
      (first_of p) (count_to p) least greatest → IsLevel f p least greatest
  level_means f p least greatest low are =
      let is = level_in (book_of f) p least greatest low are in
      record {
        least_reached = is.least_reached;
        none_under = is.none_under;
        greatest_reached = is.greatest_reached;
        none_over = is.none_over;
      }
