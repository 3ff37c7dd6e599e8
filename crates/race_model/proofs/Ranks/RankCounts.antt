-- How many lists have so many pips, how many of those are before one, and how ranks follow.
use Rattle.std.proofs.Common.{◌≡◌, ℕ, zero, suc, ◌+◌, ◌-◌, ◌*◌, ◌<◌, ◌≤◌, ◌⊎◌, Bool, false, cond, ◌&&◌, ◌||◌, List, []}
use Rattle.std.proofs.Common.{◌∷◌, length, refl, ◌∙◌, ap, inl, inr, arith, nat_lt, ◌==◌, sum}
use Rattle.std.proofs.lemmas.Bool.{ne_eqb, lt-ltb, le-ltb, and_left, and_right, or_from, or_left, cases_lt}
use Rattle.race_model.specs.Prelude.{pips_from, comes_first}
use Rattle.race_model.proofs.Numbers.Sums.{sum-cons}
use Rattle.race_model.proofs.Ranks.BoxCounts.{within, one_more, within-same, within-same_cons}
use Rattle.race_model.proofs.Ranks.BoxCounts.{within-none, within-none_cons, within-nil}
use Rattle.race_model.proofs.Ranks.BoxCounts.{within-zero, within-suc}
use Rattle.race_model.proofs.Numbers.Tests.{eq-suc, nat_lt-suc, and-true, and-same, eq-add, eq-sub, eq-low}

-- how many lists of n counts, of the points from p on, have at most k checkers and m pips
unfoldable pub ways : ℕ → ℕ → ℕ → ℕ → ℕ
ways n p k m = within n k (λ y. pips_from p y == m)

-- a list has a checker on its first point
abbrev pub is_used : List ℕ → Bool
is_used [] = false
is_used (c ∷ cs) = nat_lt 0 c

-- how many of the lists of n + 1 counts have a checker on their first point
unfoldable pub used : ℕ → ℕ → ℕ → ℕ → ℕ
used n p k m = within (suc n) k (λ y. (pips_from p y == m) && is_used y)

-- a list has as many pips as x, and is before it
abbrev pub is_earlier : ℕ → List ℕ → List ℕ → Bool
is_earlier p x y = (pips_from p y == pips_from p x) && comes_first y x

-- how many lists of as many pips as x are before it
unfoldable pub earlier : ℕ → ℕ → ℕ → List ℕ → ℕ
earlier n p k x = within n k (λ y. is_earlier p x y)

-- a checker more on the first point adds its pips
pips_from-more : (p c : ℕ) (cs : List ℕ) → pips_from p (suc c ∷ cs) ≡ p + pips_from p (c ∷ cs)
pips_from-more p c cs = omega arith

-- an empty first point has no pips
pips_from-none : (p : ℕ) (cs : List ℕ) → pips_from p (0 ∷ cs) ≡ pips_from (suc p) cs
pips_from-none p cs = omega arith

-- of lists of no counts one has no pips
pub ways-nil : (p k m : ℕ) → ways 0 p k m ≡ cond (0 == m) 1 0
unfolding ways
ways-nil p k m = within-nil k (λ y. pips_from p y == m)

-- without a checker the first point is empty
pub ways-zero : (n p m : ℕ) → ways (suc n) p 0 m ≡ ways n (suc p) 0 m
unfolding ways
ways-zero n p m =
    within-zero n (λ y. pips_from p y == m)
    ∙ within-same n 0 _ _ (λ cs. ap (λ s. s == m) (pips_from-none p cs))

-- no checker fits on the first point
pub ways-low : (n p k m : ℕ) → k < 15 → m < p → ways (suc n) p (suc k) m ≡ ways n (suc p) (suc k) m
unfolding ways one_more
ways-low n p k m h low =
    within-suc n k (λ y. pips_from p y == m) h
    ∙ omega (arith, none, within-same n (suc k) _ _ (λ cs. ap (λ s. s == m) (pips_from-none p cs)))
  where
    none : within (suc n) k (λ y. pips_from p (one_more y) == m) ≡ 0
    none =
        within-none_cons n k _
        (λ c cs.
        ap (λ s. s == m) (pips_from-more p c cs) ∙ eq-low p (pips_from p (c ∷ cs)) m low)

-- the first point is empty, or one of its checkers is taken away
pub ways-more : (n p k m : ℕ) → k < 15 → p ≤ m →
    ways (suc n) p (suc k) m ≡ ways n (suc p) (suc k) m + ways (suc n) p k (m - p)
unfolding ways one_more
ways-more n p k m h room =
    within-suc n k (λ y. pips_from p y == m) h
    ∙ omega (arith, some, within-same n (suc k) _ _ (λ cs. ap (λ s. s == m) (pips_from-none p cs)))
  where
    some : within (suc n) k (λ y. pips_from p (one_more y) == m)
        ≡ within (suc n) k (λ y. pips_from p y == m - p)
    some =
        within-same_cons n k _ _
        (λ c cs.
        ap (λ s. s == m) (pips_from-more p c cs)
        ∙ eq-sub p (pips_from p (c ∷ cs)) m room)

-- without a checker none is on the first point
pub used-zero : (n p m : ℕ) → used n p 0 m ≡ 0
unfolding used
used-zero n p m =
    within-zero n (λ y. (pips_from p y == m) && is_used y)
    ∙ within-none n 0 _ (λ cs. and_right (pips_from p (0 ∷ cs) == m) false refl)

-- no checker fits on the first point
pub used-low : (n p k m : ℕ) → k < 15 → m < p → used n p (suc k) m ≡ 0
unfolding used one_more
used-low n p k m h low =
    within-suc n k (λ y. (pips_from p y == m) && is_used y) h
    ∙ omega (
      arith,
      none,
      within-none n (suc k) _ (λ cs. and_right (pips_from p (0 ∷ cs) == m) false refl),
    ) where
      none : within (suc n) k (λ y. (pips_from p (one_more y) == m) && is_used (one_more y)) ≡ 0
      none =
          within-none_cons n k _
          (λ c cs.
          and_left (pips_from p (suc c ∷ cs) == m) (nat_lt 0 (suc c))
          (ap (λ s. s == m) (pips_from-more p c cs)
          ∙ eq-low p (pips_from p (c ∷ cs)) m low))

-- a checker of the first point is taken away
pub used-more : (n p k m : ℕ) → k < 15 → p ≤ m → used n p (suc k) m ≡ ways (suc n) p k (m - p)
unfolding used ways one_more
used-more n p k m h room =
    within-suc n k (λ y. (pips_from p y == m) && is_used y) h
    ∙ omega (
      arith,
      some,
      within-none n (suc k) _ (λ cs. and_right (pips_from p (0 ∷ cs) == m) false refl),
    ) where
      some : within (suc n) k (λ y. (pips_from p (one_more y) == m) && is_used (one_more y))
          ≡ within (suc n) k (λ y. pips_from p y == m - p)
      some =
          within-same_cons n k _ _
          (λ c cs.
          and-true (pips_from p (suc c ∷ cs) == m) (nat_lt 0 (suc c))
          (lt-ltb 0 (suc c) (omega arith)) ∙ ap (λ s. s == m) (pips_from-more p c cs)
          ∙ eq-sub p (pips_from p (c ∷ cs)) m room)

-- the first point is empty or used
pub ways-used : (n p k m : ℕ) → k ≤ 15 → ways (suc n) p k m ≡ ways n (suc p) k m + used n p k m
ways-used n p zero m h = omega (arith, ways-zero n p m, used-zero n p m)
ways-used n p (suc k) m h = by_room (cases_lt m p) where
  by_room : (m < p) ⊎ (p ≤ m) →
      ways (suc n) p (suc k) m ≡ ways n (suc p) (suc k) m + used n p (suc k) m
  by_room (inl low) =
      omega (arith, ways-low n p k m (omega arith) low, used-low n p k m (omega arith) low)
  by_room (inr room) =
      omega (arith, ways-more n p k m (omega arith) room, used-more n p k m (omega arith) room)

-- no list is before the empty one
pub earlier-nil : (p k : ℕ) → earlier 0 p k [] ≡ 0
unfolding earlier
earlier-nil p k = within-nil k (λ y. is_earlier p [] y)

-- with the first points empty, the rest decides
is_earlier-none : (p : ℕ) (cs ds : List ℕ) →
    is_earlier p (0 ∷ cs) (0 ∷ ds) ≡ is_earlier (suc p) cs ds
is_earlier-none p cs ds =
    and-same _ _ _ _ (eq-add (p * 0) (pips_from (suc p) ds) (pips_from (suc p) cs)) refl

-- no list with a checker on its first point is before one without
is_earlier-above : (p d : ℕ) (cs ds : List ℕ) → is_earlier p (0 ∷ cs) (suc d ∷ ds) ≡ false
is_earlier-above p d cs ds =
    and_right (pips_from p (suc d ∷ ds) == pips_from p (0 ∷ cs))
    (comes_first (suc d ∷ ds) (0 ∷ cs))
    (or_from (nat_lt (suc d) 0) ((suc d == 0) && comes_first ds cs)
    (le-ltb (suc d) 0 (omega arith))
    (and_left (suc d == 0) (comes_first ds cs) (ne_eqb (suc d) 0 (λ e. omega arith))))

-- a list without a checker on its first point is before each of as many pips that has one
is_earlier-below : (p c : ℕ) (cs ds : List ℕ) →
    is_earlier p (suc c ∷ cs) (0 ∷ ds) ≡ (pips_from (suc p) ds == pips_from p (suc c ∷ cs))
is_earlier-below p c cs ds =
    and-true (pips_from p (0 ∷ ds) == pips_from p (suc c ∷ cs)) (comes_first (0 ∷ ds) (suc c ∷ cs))
    (or_left (nat_lt 0 (suc c)) ((0 == suc c) && comes_first ds cs)
    (lt-ltb 0 (suc c) (omega arith)))
    ∙ ap (λ s. s == pips_from p (suc c ∷ cs)) (pips_from-none p ds)

-- a checker more on both first points changes nothing
is_earlier-more : (p c d : ℕ) (cs ds : List ℕ) →
    is_earlier p (suc c ∷ cs) (suc d ∷ ds) ≡ is_earlier p (c ∷ cs) (d ∷ ds)
is_earlier-more p c d cs ds = and-same _ _ _ _ pips-same first-same where
  pips-same : (pips_from p (suc d ∷ ds) == pips_from p (suc c ∷ cs))
      ≡ (pips_from p (d ∷ ds) == pips_from p (c ∷ cs))
  pips-same =
      ap (λ s. s == pips_from p (suc c ∷ cs)) (pips_from-more p d ds)
      ∙ ap (λ s. p + pips_from p (d ∷ ds) == s) (pips_from-more p c cs)
      ∙ eq-add p (pips_from p (d ∷ ds)) (pips_from p (c ∷ cs))

  first-same : comes_first (suc d ∷ ds) (suc c ∷ cs) ≡ comes_first (d ∷ ds) (c ∷ cs)
  first-same =
      ap (λ s. s || ((suc d == suc c) && comes_first ds cs)) (nat_lt-suc d c)
      ∙ ap (λ s. nat_lt d c || (s && comes_first ds cs)) (eq-suc d c)

-- what is before a list whose first point is empty has that point empty too
pub earlier-empty : (n p k : ℕ) (cs : List ℕ) → k ≤ 15 →
    earlier (suc n) p k (0 ∷ cs) ≡ earlier n (suc p) k cs
unfolding earlier one_more
earlier-empty n p zero cs h =
    within-zero n (λ y. is_earlier p (0 ∷ cs) y)
    ∙ within-same n 0 _ (λ ds. is_earlier (suc p) cs ds) (is_earlier-none p cs)
earlier-empty n p (suc k) cs h =
    within-suc n k (λ y. is_earlier p (0 ∷ cs) y) (omega arith)
    ∙ omega (
      arith,
      none,
      within-same n (suc k) (λ ds. is_earlier p (0 ∷ cs) (0 ∷ ds))
          (λ ds. is_earlier (suc p) cs ds) (is_earlier-none p cs),
    ) where
      none : within (suc n) k (λ y. is_earlier p (0 ∷ cs) (one_more y)) ≡ 0
      none = within-none_cons n k _ (λ d ds. is_earlier-above p d cs ds)

-- before a list with a checker on its first point are all
-- with none there, and those before it without that checker
pub earlier-more : (n p k c : ℕ) (cs : List ℕ) → k < 15 →
    earlier (suc n) p (suc k) (suc c ∷ cs)
    ≡ ways n (suc p) (suc k) (pips_from p (suc c ∷ cs)) + earlier (suc n) p k (c ∷ cs)
unfolding earlier ways one_more
earlier-more n p k c cs h =
    within-suc n k (λ y. is_earlier p (suc c ∷ cs) y) h ∙ omega (arith, some, empty) where
      some : within (suc n) k (λ y. is_earlier p (suc c ∷ cs) (one_more y))
          ≡ within (suc n) k (λ y. is_earlier p (c ∷ cs) y)
      some = within-same_cons n k _ _ (λ d ds. is_earlier-more p c d cs ds)

      empty : within n (suc k) (λ ds. is_earlier p (suc c ∷ cs) (0 ∷ ds))
          ≡ within n (suc k) (λ ds. pips_from (suc p) ds == pips_from p (suc c ∷ cs))
      empty = within-same n (suc k) _ _ (is_earlier-below p c cs)

-- the lists of as many pips that come after x, point by
-- point: the first difference is a checker more there
abbrev pub later : ℕ → ℕ → List ℕ → ℕ
later p k [] = 0
later p k (c ∷ cs) = used (length cs) p (k - c) (pips_from (suc p) cs) + later (suc p) (k - c) cs

-- before x, x itself and after x: these are all lists of as many pips
abbrev pub IsSplit : ℕ → ℕ → List ℕ → Type 0
IsSplit p k x = earlier (length x) p k x + suc (later p k x) ≡ ways (length x) p k (pips_from p x)

-- that holds with c checkers on the first point, where it is known of the rest
split_first : (p : ℕ) (cs : List ℕ) → ((k : ℕ) → sum cs ≤ k → k ≤ 15 → IsSplit (suc p) k cs) →
    (c k : ℕ) → c + sum cs ≤ k → k ≤ 15 → IsSplit p k (c ∷ cs)
split_first p cs rest zero k few h =
    let e : pips_from p (0 ∷ cs) ≡ pips_from (suc p) cs = pips_from-none p cs in
    let t : k - 0 ≡ k = omega arith in
    omega (
      arith,
      earlier-empty (length cs) p k cs h,
      rest k (omega arith) h,
      ways-used (length cs) p k (pips_from (suc p) cs) h,
      ap (ways (suc (length cs)) p k) e,
      ap (λ j. used (length cs) p j (pips_from (suc p) cs)) t,
      ap (λ j. later (suc p) j cs) t,
    )
split_first p cs rest (suc c) zero few h = absurd (omega arith)
split_first p cs rest (suc c) (suc k) few h =
    let before : IsSplit p k (c ∷ cs) = split_first p cs rest c k (omega arith) (omega arith) in
    let e : pips_from p (suc c ∷ cs) ≡ p + pips_from p (c ∷ cs) = pips_from-more p c cs in
    let t : suc k - suc c ≡ k - c = omega arith in
    let m : pips_from p (suc c ∷ cs) - p ≡ pips_from p (c ∷ cs) = omega arith in
    omega (
      arith,
      before,
      earlier-more (length cs) p k c cs (omega arith),
      ways-more (length cs) p k (pips_from p (suc c ∷ cs)) (omega arith) (omega arith),
      ap (ways (suc (length cs)) p k) m,
      ap (λ j. used (length cs) p j (pips_from (suc p) cs)) t,
      ap (λ j. later (suc p) j cs) t,
    )

-- that holds of each list of at most k checkers
pub split_all : (x : List ℕ) (p k : ℕ) → sum x ≤ k → k ≤ 15 → IsSplit p k x
split_all [] p k few h = omega (arith, earlier-nil p k, ways-nil p k 0)
split_all (c ∷ cs) p k few h =
    split_first p cs (split_all cs (suc p)) c k (omega (arith, sum-cons c cs)) h
