-- What ranks are: they tell positions apart, rise with pips, and leave none out.
use Rattle.std.proofs.Common.{◌≡◌, ℕ, zero, suc, ◌+◌, ◌-◌, ◌*◌, ◌<◌, ◌≤◌, ◌⊎◌, ◌↔◌, Bool, cond, ◌&&◌, ◌||◌, not, List}
use Rattle.std.proofs.Common.{[], ◌∷◌, length, refl, sym, ◌∙◌, ap, subst, zero-add, inl, inr, mul-le-mul_right, arith}
use Rattle.std.proofs.Common.{nat_lt, nat_le, ◌==◌, sum, count_by, find, None, unwrap_or}
use Rattle.std.proofs.lemmas.Bool.{eqb-true, eq-eqb, ne_eqb, leb-true, le-leb, lt-leb, ltb-true}
use Rattle.std.proofs.lemmas.Bool.{lt-ltb, le-ltb, and_parts, not-false, cases_lt, cases_order}
use Rattle.std.proofs.lemmas.Bool.{cases_eq}
use Rattle.race_model.specs.Prelude.{Board, IsPosition, pips_from, pips, checkers, finished, comes_first, is_before}
use Rattle.race_model.specs.Prelude.{boards, count_positions, rank, first_of, count_to, at_rank}
use Rattle.race_model.proofs.Numbers.Sums.{sum-cons}
use Rattle.race_model.proofs.Ranks.BoxCounts.{within, one_more, within-same, within-add}
use Rattle.race_model.proofs.Ranks.BoxCounts.{within-none_on, within-some, IsFound, found_or_none}
use Rattle.race_model.proofs.Ranks.BoxCounts.{boards_have_length}
use Rattle.race_model.proofs.Numbers.Tests.{same_bool}
use Rattle.race_model.proofs.Ranks.RankCounts.{ways, ways-nil, ways-zero, ways-low, ways-more}
use Rattle.race_model.proofs.Ranks.RankCounts.{earlier, earlier-nil, earlier-empty, earlier-more}
use Rattle.race_model.proofs.Ranks.RankCounts.{later, split_all, is_earlier}

-- a rank: the positions of fewer pips, and those of as many that are before
pub rank-split : (x : Board) → rank x ≡ first_of (pips x) + earlier 6 1 15 x
unfolding rank first_of count_positions within earlier
rank-split x =
    within-add 6 15 (λ y. is_before y x) (λ y. nat_lt (pips y) (pips x)) (λ y. is_earlier 1 x y)
    (λ y. either (pips y) (pips x) (comes_first y x) (cases_lt (pips y) (pips x))) where
      either : (a b : ℕ) (c : Bool) → (a < b) ⊎ (b ≤ a) →
          cond {A = ℕ} (nat_lt a b || ((a == b) && c)) 1 0
          ≡ cond (nat_lt a b) 1 0 + cond ((a == b) && c) 1 0
      either a b c (inl h) = rw (lt-ltb a b h, ne_eqb a b (λ e. omega arith)) refl
      either a b c (inr h) = rw (le-ltb a b h) (sym (zero-add (cond {A = ℕ} ((a == b) && c) 1 0)))

-- the positions of at most m pips: those of fewer, and those of m
pub count_to-step : (m : ℕ) → count_to m ≡ first_of m + ways 6 1 15 m
unfolding count_to first_of count_positions within ways
count_to-step m =
    within-add 6 15 (λ y. nat_le (pips y) m) (λ y. nat_lt (pips y) m) (λ y. pips y == m)
    (λ y. either (pips y) m (cases_order (pips y) m)) where
      either : (a b : ℕ) → (a ≡ b) ⊎ ((a < b) ⊎ (b < a)) →
          cond {A = ℕ} (nat_le a b) 1 0 ≡ cond (nat_lt a b) 1 0 + cond (a == b) 1 0
      either a b (inl e) =
          rw (le-leb a b (omega arith), le-ltb a b (omega arith), eq-eqb a b e) refl
      either a b (inr (inl h)) =
          rw (le-leb a b (omega arith), lt-ltb a b h, ne_eqb a b (λ e. omega arith)) refl
      either a b (inr (inr h)) =
          rw (lt-leb a b h, le-ltb a b (omega arith), ne_eqb a b (λ e. omega arith)) refl

-- fewer pips than m + 1 are at most m
pub first_of-suc : (m : ℕ) → first_of (suc m) ≡ count_to m
unfolding count_to first_of count_positions within
first_of-suc m =
    within-same 6 15 (λ y. nat_lt (pips y) (suc m)) (λ y. nat_le (pips y) m)
    (λ y.
    same_bool _ _ (λ h. le-leb (pips y) m (omega (arith, ltb-true (pips y) (suc m) h)))
    (λ h. lt-ltb (pips y) (suc m) (omega (arith, leb-true (pips y) m h))))

-- no position has fewer than no pips
pub first_of-zero : first_of 0 ≡ 0
unfolding first_of count_positions within
first_of-zero =
    within-none_on 6 15 (λ y. nat_lt (pips y) 0) (omega arith)
    (λ y l few. le-ltb (pips y) 0 (omega arith))

-- more pips, more positions
pub first_of-add : (m d : ℕ) → first_of m ≤ first_of (m + d)
first_of-add m zero = let e : m + 0 ≡ m = omega arith in omega (arith, ap first_of e)
first_of-add m (suc d) =
    let e : m + suc d ≡ suc (m + d) = omega arith in
    omega (arith, ap first_of e, first_of-suc (m + d), count_to-step (m + d), first_of-add m d)

-- the first ranks of levels rise
pub first_of-rises : (m n : ℕ) → m ≤ n → first_of m ≤ first_of n
first_of-rises m n h =
    let e : m + (n - m) ≡ n = omega arith in omega (arith, ap first_of e, first_of-add m (n - m))

-- more pips, more positions of at most so many
pub count_to-rises : (m n : ℕ) → m ≤ n → count_to m ≤ count_to n
count_to-rises m n h =
    omega (arith, first_of-suc m, first_of-suc n, first_of-rises (suc m) (suc n) (omega arith))

-- the rank of a position, counted from the last one of as many pips
pub rank-later : (x : Board) → IsPosition x → rank x + suc (later 1 15 x) ≡ count_to (pips x)
rank-later x p =
    omega (
      arith,
      rank-split x,
      count_to-step (pips x),
      subst (λ n. earlier n 1 15 x + suc (later 1 15 x) ≡ ways n 1 15 (pips x)) p.six
          (split_all x 1 15 p.few (omega arith)),
    )

-- ranks lie between the counts of fewer and of at most as many pips
pub rank_within : (x : Board) → IsPosition x →
    (first_of (pips x) ≤ rank x) × (rank x < count_to (pips x))
rank_within x p = (omega (arith, rank-split x), omega (arith, rank-later x p))

-- fewer pips, lower rank
pub rank-fewer : (x y : Board) → IsPosition x → IsPosition y → pips x < pips y → rank x < rank y
rank-fewer x y p q h =
    omega (
      arith,
      (rank_within x p).1,
      (rank_within y q).0,
      first_of-suc (pips x),
      first_of-rises (suc (pips x)) (pips y) h,
    )

-- the ranks under the count of a bound are those of the positions of at most so many pips
pub rank_bound : (x : Board) (b : ℕ) → IsPosition x → (rank x < count_to b) ↔ (pips x ≤ b)
rank_bound x b p = (there, back) where
  there : rank x < count_to b → pips x ≤ b
  there h = by_order (cases_lt b (pips x)) where
    by_order : (b < pips x) ⊎ (pips x ≤ b) → pips x ≤ b
    by_order (inl more) =
        absurd (omega
        (arith, h, (rank_within x p).0, first_of-suc b, first_of-rises (suc b) (pips x) more))
    by_order (inr less) = less

  back : pips x ≤ b → rank x < count_to b
  back h = omega (arith, (rank_within x p).1, count_to-rises (pips x) b h)

-- what is before a list with no checker on its first point
-- is less than what is before one with some
earlier-less : (p k d : ℕ) (cs ds : List ℕ) → sum cs ≤ suc k → k < 15 →
    pips_from p (0 ∷ cs) ≡ pips_from p (suc d ∷ ds) →
    earlier (suc (length cs)) p (suc k) (0 ∷ cs) < earlier (suc (length cs)) p (suc k) (suc d ∷ ds)
earlier-less p k d cs ds few h e =
    let m : pips_from (suc p) cs ≡ pips_from p (suc d ∷ ds) = omega arith in
    omega (
      arith,
      earlier-empty (length cs) p (suc k) cs (omega arith),
      split_all cs (suc p) (suc k) few (omega arith),
      earlier-more (length cs) p k d ds h,
      ap (ways (length cs) (suc p) (suc k)) m,
    )

-- lists with as many before them are one, where that is known of the rests
apart_first : (p : ℕ) (cs ds : List ℕ) → length ds ≡ length cs →
    ((k : ℕ) → sum cs ≤ k → sum ds ≤ k → k ≤ 15 → pips_from (suc p) cs ≡ pips_from (suc p) ds →
    earlier (length cs) (suc p) k cs ≡ earlier (length cs) (suc p) k ds → cs ≡ ds) →
    (c d k : ℕ) → c + sum cs ≤ k → d + sum ds ≤ k → k ≤ 15 →
    pips_from p (c ∷ cs) ≡ pips_from p (d ∷ ds) →
    earlier (suc (length cs)) p k (c ∷ cs) ≡ earlier (suc (length cs)) p k (d ∷ ds) →
    c ∷ cs ≡ d ∷ ds
unfolding one_more
apart_first p cs ds l rest zero zero k f g h e t =
    ap (λ zs. 0 ∷ zs)
    (rest k (omega arith) (omega arith) h (omega arith)
    (omega (
      arith,
      t,
      earlier-empty (length cs) p k cs h,
      earlier-empty (length cs) p k ds h,
    )))
apart_first p cs ds l rest zero (suc d) zero f g h e t = absurd (omega arith)
apart_first p cs ds l rest zero (suc d) (suc k) f g h e t =
    absurd (omega (arith, t, earlier-less p k d cs ds (omega arith) (omega arith) e))
apart_first p cs ds l rest (suc c) zero zero f g h e t = absurd (omega arith)
apart_first p cs ds l rest (suc c) zero (suc k) f g h e t =
    absurd (omega (
      arith,
      t,
      subst (λ n. earlier (suc n) p (suc k) (0 ∷ ds) < earlier (suc n) p (suc k) (suc c ∷ cs)) l
          (earlier-less p k c ds cs (omega arith) (omega arith) (sym e)),
    ))
apart_first p cs ds l rest (suc c) (suc d) zero f g h e t = absurd (omega arith)
apart_first p cs ds l rest (suc c) (suc d) (suc k) f g h e t =
    let less : pips_from p (c ∷ cs) ≡ pips_from p (d ∷ ds) = omega arith in
    ap one_more
    (apart_first p cs ds l rest c d k (omega arith) (omega arith) (omega arith) less
    (omega (
      arith,
      t,
      earlier-more (length cs) p k c cs (omega arith),
      earlier-more (length cs) p k d ds (omega arith),
      ap (ways (length cs) (suc p) (suc k)) e,
    )))

-- lists of one length and as many pips with as many before them are one
earlier_apart : (x y : List ℕ) (p k : ℕ) → length y ≡ length x → sum x ≤ k → sum y ≤ k → k ≤ 15 →
    pips_from p x ≡ pips_from p y → earlier (length x) p k x ≡ earlier (length x) p k y → x ≡ y
earlier_apart [] [] p k l f g h e t = refl
earlier_apart [] (d ∷ ds) p k l f g h e t = absurd (omega arith)
earlier_apart (c ∷ cs) [] p k l f g h e t = absurd (omega arith)
earlier_apart (c ∷ cs) (d ∷ ds) p k l f g h e t =
    apart_first p cs ds (omega arith)
    (λ j u v w. earlier_apart cs ds (suc p) j (omega arith) u v w)
    c d k (omega (arith, sum-cons c cs)) (omega (arith, sum-cons d ds)) h e t

-- positions of one rank are one
pub rank_apart : (x y : Board) → IsPosition x → IsPosition y → rank x ≡ rank y → x ≡ y
rank_apart x y p q e = by_order (cases_order (pips x) (pips y)) where
  by_order : (pips x ≡ pips y) ⊎ ((pips x < pips y) ⊎ (pips y < pips x)) → x ≡ y
  by_order (inl same) =
      earlier_apart x y 1 15 (omega (arith, p.six, q.six)) p.few q.few (omega arith) same
      (subst (λ n. earlier n 1 15 x ≡ earlier n 1 15 y) (sym p.six)
      (omega (arith, e, rank-split x, rank-split y, ap first_of same)))
  by_order (inr (inl h)) = absurd (omega (arith, e, rank-fewer x y p q h))
  by_order (inr (inr h)) = absurd (omega (arith, e, rank-fewer y x q p h))

-- the pips of a list are at most those of all its checkers on its last point
pips_from-most : (p q : ℕ) (y : List ℕ) → p + length y ≡ suc q → pips_from p y ≤ q * sum y
pips_from-most p q [] e = omega arith
pips_from-most p q (c ∷ cs) e =
    let low : p ≤ q = omega arith in
    omega (
      arith,
      ap (λ t. q * t) (sum-cons c cs),
      pips_from-most (suc p) q cs (omega arith),
      mul-le-mul_right c low,
    )

-- there is no position of more than 90 pips
pub pips-range : (y : Board) → IsPosition y → pips y ≤ 90
pips-range y p = omega (arith, pips_from-most 1 6 y (omega (arith, p.six)), p.few)

-- the test of a search for a rank
unfoldable has_rank : ℕ → Board → Bool
has_rank r y = nat_le (checkers y) 15 && (rank y == r)

-- a list that is none of six counts
unfoldable no_six : Board → Bool
no_six y = not (length y == 6)

-- what a search for a rank finds
found_position : (r : ℕ) (y : Board) → IsFound (has_rank r) no_six (boards 6) y →
    (IsPosition y) × (rank y ≡ r)
unfolding has_rank no_six
found_position r y f =
    let parts = and_parts (nat_le (checkers y) 15) (rank y == r) f.passes in (
      record {
        six = eqb-true (length y) 6 (not-false (length y == 6) f.good);
        few = leb-true (checkers y) 15 parts.0;
      },
      eqb-true (rank y) r parts.1,
    )

-- a search for the rank of a position finds one, and any search ends at a position
pub at_rank_search : (r : ℕ) →
    ((at_rank r ≡ finished) × (count_positions (λ y. rank y == r) ≡ 0))
    ⊎ ((IsPosition (at_rank r)) × (rank (at_rank r) ≡ r))
unfolding at_rank count_positions has_rank no_six
at_rank_search r =
    by_cases (found_or_none (has_rank r) no_six (boards 6) (boards_have_length 6)) where
      by_cases : ((find (has_rank r) (boards 6) ≡ None) × (count_by (has_rank r) (boards 6) ≡ 0))
          ⊎ ((y : Board) × IsFound (has_rank r) no_six (boards 6) y) →
          ((at_rank r ≡ finished) × (count_positions (λ y. rank y == r) ≡ 0))
          ⊎ ((IsPosition (at_rank r)) × (rank (at_rank r) ≡ r))
      by_cases (inl none) = inl (ap (λ o. unwrap_or o finished) none.0, none.1)
      by_cases (inr some) =
          inr (subst (λ z. (IsPosition z) × (rank z ≡ r))
          (sym (ap (λ o. unwrap_or o finished) some.1.is_first)) (found_position r some.0 some.1))

-- the position of any number is one
pub at_rank_position : (r : ℕ) → IsPosition (at_rank r)
at_rank_position r = by_search (at_rank_search r) where
  by_search : ((at_rank r ≡ finished) × (count_positions (λ y. rank y == r) ≡ 0))
      ⊎ ((IsPosition (at_rank r)) × (rank (at_rank r) ≡ r)) → IsPosition (at_rank r)
  by_search (inl none) = subst IsPosition (sym none.0) (record { six = refl; few = omega arith })
  by_search (inr some) = some.0

-- the position of the rank of a position is that position
pub at_rank-rank : (x : Board) → IsPosition x → at_rank (rank x) ≡ x
unfolding count_positions within
at_rank-rank x p = by_search (at_rank_search (rank x)) where
  counted : 0 < within 6 15 (λ y. rank y == rank x)
  counted =
      subst (λ n. 0 < within n 15 (λ y. rank y == rank x)) p.six
      (within-some x 15 (λ y. rank y == rank x) (omega arith) p.few
      (eq-eqb (rank x) (rank x) refl))

  by_search : ((at_rank (rank x) ≡ finished) × (count_positions (λ y. rank y == rank x) ≡ 0))
      ⊎ ((IsPosition (at_rank (rank x))) × (rank (at_rank (rank x)) ≡ rank x)) →
      at_rank (rank x) ≡ x
  by_search (inl none) = absurd (omega (arith, none.1, counted))
  by_search (inr some) = rank_apart (at_rank (rank x)) x some.0 p some.1

-- a list of n counts with at most k checkers and m pips, and just so many before it
pub record IsAt (n p k m r : ℕ) (x : List ℕ) : Type 0 where
  pub long : length x ≡ n
  pub few : sum x ≤ k
  pub weighs : pips_from p x ≡ m
  pub place : earlier n p k x ≡ r

-- an empty point in front
with_none : (n p k m r : ℕ) → k ≤ 15 → (x : List ℕ) × IsAt n (suc p) k m r x →
    (x : List ℕ) × IsAt (suc n) p k m r x
with_none n p k m r h (x, a) = (
  0 ∷ x,
  record {
    long = ap suc a.long;
    few = omega (arith, a.few, sum-cons 0 x);
    weighs = omega (arith, a.weighs);
    place = earlier-empty n p k x h ∙ a.place;
  },
)

-- a checker more on the first point
with_more : (n p k m r : ℕ) → k < 15 → p ≤ m → ways n (suc p) (suc k) m ≤ r →
    (x : List ℕ) × IsAt (suc n) p k (m - p) (r - ways n (suc p) (suc k) m) x →
    (x : List ℕ) × IsAt (suc n) p (suc k) m r x
with_more n p k m r h room more ([], a) = absurd (omega (arith, a.long))
with_more n p k m r h room more (c ∷ cs, a) =
    let e : pips_from p (suc c ∷ cs) ≡ m = omega (arith, a.weighs) in (
      suc c ∷ cs,
      record {
        long = a.long;
        few = omega (arith, a.few, sum-cons c cs, sum-cons (suc c) cs);
        weighs = e;
        place = omega (arith, earlier-more n p k c cs h, a.place, ap (ways n (suc p) (suc k)) e);
      },
    )

-- no number of lists before is left out
at_first : (n p : ℕ) →
    ((k m r : ℕ) → k ≤ 15 → r < ways n (suc p) k m → (x : List ℕ) × IsAt n (suc p) k m r x) →
    (k m r : ℕ) → k ≤ 15 → r < ways (suc n) p k m → (x : List ℕ) × IsAt (suc n) p k m r x
at_first n p rest zero m r h low =
    with_none n p 0 m r h (rest 0 m r h (omega (arith, low, ways-zero n p m)))
at_first n p rest (suc k) m r h low =
    by_cases (cases_lt r (ways n (suc p) (suc k) m)) (cases_lt m p)
    (λ j q l. at_first n p rest k j q (omega arith) l) where
      by_cases : (r < ways n (suc p) (suc k) m) ⊎ (ways n (suc p) (suc k) m ≤ r) →
          (m < p) ⊎ (p ≤ m) →
          ((j q : ℕ) → q < ways (suc n) p k j → (x : List ℕ) × IsAt (suc n) p k j q x) →
          (x : List ℕ) × IsAt (suc n) p (suc k) m r x
      by_cases (inl less) room fewer = with_none n p (suc k) m r h (rest (suc k) m r h less)
      by_cases (inr more) (inl small) fewer =
          absurd (omega (arith, low, more, ways-low n p k m (omega arith) small))
      by_cases (inr more) (inr room) fewer =
          with_more n p k m r (omega arith) room more
          (fewer (m - p) (r - ways n (suc p) (suc k) m)
          (omega (arith, low, more, ways-more n p k m (omega arith) room)))

-- that holds of any number of points
at_all : (n p k m r : ℕ) → k ≤ 15 → r < ways n p k m → (x : List ℕ) × IsAt n p k m r x
at_all zero p k m r h low = by_cases (cases_eq 0 m) where
  by_cases : (0 ≡ m) ⊎ (0 ≡ m → ⊥) → (x : List ℕ) × IsAt 0 p k m r x
  by_cases (inl e) = (
    [],
    record {
      long = refl;
      few = omega arith;
      weighs = e;
      place =
          omega (
            arith,
            low,
            ways-nil p k m,
            ap (λ b. cond {A = ℕ} b 1 0) (eq-eqb 0 m e),
            earlier-nil p k,
          );
    },
  )
  by_cases (inr other) =
      absurd (omega (arith, low, ways-nil p k m, ap (λ b. cond {A = ℕ} b 1 0) (ne_eqb 0 m other)))
at_all (suc n) p k m r h low = at_first n p (at_all n (suc p)) k m r h low

-- a position of m pips with r positions of as many pips before it
pub position_at : (m r : ℕ) → r < ways 6 1 15 m →
    (x : Board) × ((IsPosition x) × ((pips x ≡ m) × (earlier 6 1 15 x ≡ r)))
position_at m r low = by_list (at_all 6 1 15 m r (omega arith) low) where
  by_list : (x : List ℕ) × IsAt 6 1 15 m r x →
      (x : Board) × ((IsPosition x) × ((pips x ≡ m) × (earlier 6 1 15 x ≡ r)))
  by_list (x, a) = (x, (record { six = a.long; few = a.few }, (a.weighs, a.place)))

-- each number under a count is a rank
pub rank_reached : (b r : ℕ) → r < first_of b → (x : Board) × ((IsPosition x) × (rank x ≡ r))
rank_reached zero r low = absurd (omega (arith, low, first_of-zero))
rank_reached (suc b) r low = by_cases (cases_lt r (first_of b)) (rank_reached b r) where
  by_cases : (r < first_of b) ⊎ (first_of b ≤ r) →
      (r < first_of b → (x : Board) × ((IsPosition x) × (rank x ≡ r))) →
      (x : Board) × ((IsPosition x) × (rank x ≡ r))
  by_cases (inl less) fewer = fewer less
  by_cases (inr more) fewer =
      by_place
      (position_at b (r - first_of b)
      (omega (arith, low, more, first_of-suc b, count_to-step b))) where
        by_place :
            (x : Board) × ((IsPosition x) × ((pips x ≡ b) × (earlier 6 1 15 x ≡ r - first_of b))) →
            (x : Board) × ((IsPosition x) × (rank x ≡ r))
        by_place (x, a) = (x, (a.0, omega (arith, rank-split x, a.1, more, ap first_of a.1.0)))
