-- Counts over the box of all boards, split by the first count: one recurrence for every test.
use Rattle.std.proofs.Common.{◌≡◌, ℕ, zero, suc, ◌+◌, ◌<◌, ◌≤◌, Bool, true, false, cond, ◌&&◌, not, List, [], ◌∷◌}
use Rattle.std.proofs.Common.{length, map, refl, sym, ◌∙◌, ap, zero-add, inl, inr, arith, nat_le, ◌==◌, ◌⊎◌, sum}
use Rattle.std.proofs.Common.{sum_by, count_by, find, Some, None}
use Rattle.std.proofs.lemmas.List.Sums.{sum_by-cons}
use Rattle.std.proofs.lemmas.Bool.{le-leb, lt-leb, and_left, and_right}
use Rattle.race_model.specs.Prelude.{boards, numbers_from}
use Rattle.race_model.proofs.Numbers.Sums.{sum-cons, sum_by-map, sum_by-flat_map, sum_by-equal, sum_by-zero, sum_by-add}
use Rattle.race_model.proofs.Numbers.Tests.{nat_le-suc, eq-suc}

-- a count by the first of the counts
pub count_by-boards : (n : ℕ) (p : List ℕ → Bool) →
    count_by p (boards (suc n))
    ≡ sum_by (λ c. count_by (λ cs. p (c ∷ cs)) (boards n)) (numbers_from 0 16)
unfolding boards
count_by-boards n p =
    sum_by-flat_map (λ y. cond {A = ℕ} (p y) 1 0) (λ c. map (λ cs. c ∷ cs) (boards n))
    (numbers_from 0 16)
    ∙ sum_by-equal _ _ (numbers_from 0 16)
    (λ c. sum_by-map (λ y. cond {A = ℕ} (p y) 1 0) (λ cs. c ∷ cs) (boards n))

-- a sum over numbers that begin one later
pub sum_by-later : (f : ℕ → ℕ) (a n : ℕ) →
    sum_by f (numbers_from (suc a) n) ≡ sum_by (λ c. f (suc c)) (numbers_from a n)
unfolding numbers_from
sum_by-later f a zero = refl
sum_by-later f a (suc n) =
    sum_by-cons f (suc a) (numbers_from (suc (suc a)) n)
    ∙ ap (λ m. f (suc a) + m) (sum_by-later f (suc a) n)
    ∙ sym (sum_by-cons (λ c. f (suc c)) a (numbers_from (suc a) n))

-- a sum over numbers by the last of them
pub sum_by-last : (f : ℕ → ℕ) (a n : ℕ) →
    sum_by f (numbers_from a (suc n)) ≡ sum_by f (numbers_from a n) + f (a + n)
unfolding numbers_from
sum_by-last f a zero = let e : a + 0 ≡ a = omega arith in omega (arith, sum_by-cons f a [], ap f e)
sum_by-last f a (suc n) =
    let e : a + suc n ≡ suc a + n = omega arith in
    omega (
      arith,
      sum_by-cons f a (numbers_from (suc a) (suc n)),
      sum_by-cons f a (numbers_from (suc a) n),
      sum_by-last f (suc a) n,
      ap f e,
    )

-- a sum over numbers by the first of them
pub sum_by-opened : (f : ℕ → ℕ) (a n : ℕ) →
    sum_by f (numbers_from a (suc n)) ≡ f a + sum_by f (numbers_from (suc a) n)
unfolding numbers_from
sum_by-opened f a n = sum_by-cons f a (numbers_from (suc a) n)

-- the sum over the sixteen numbers is that over the first
-- and those one later, where there is nothing after the last
pub sum_by-sixteen : (f : ℕ → ℕ) → f 16 ≡ 0 →
    sum_by f (numbers_from 0 16) ≡ f 0 + sum_by (λ c. f (suc c)) (numbers_from 0 16)
sum_by-sixteen f none =
    omega (arith, sum_by-last f 0 16, none, sum_by-opened f 0 16, sum_by-later f 0 16)

-- how many lists of n counts have at most k checkers and pass a test
unfoldable pub within : ℕ → ℕ → (List ℕ → Bool) → ℕ
within n k test = count_by (λ y. nat_le (sum y) k && test y) (boards n)

-- one checker more on the first point
unfoldable pub one_more : List ℕ → List ℕ
one_more [] = []
one_more (c ∷ cs) = suc c ∷ cs

-- one checker more leaves the length as it is
pub length-one_more : (y : List ℕ) → length (one_more y) ≡ length y
unfolding one_more
length-one_more [] = refl
length-one_more (c ∷ cs) = refl

-- one checker more adds at most one to the sum
pub sum-one_more : (y : List ℕ) → sum (one_more y) ≤ suc (sum y)
unfolding one_more
sum-one_more [] = omega arith
sum-one_more (c ∷ cs) = omega (arith, sum-cons (suc c) cs, sum-cons c cs)

-- tests that agree, counts that agree
pub within-same : (n k : ℕ) (p q : List ℕ → Bool) → ((y : List ℕ) → p y ≡ q y) →
    within n k p ≡ within n k q
unfolding within
within-same n k p q e =
    sum_by-equal _ _ (boards n) (λ y. ap (λ b. cond {A = ℕ} (nat_le (sum y) k && b) 1 0) (e y))

-- of lists of no counts there is one
pub within-nil : (k : ℕ) (test : List ℕ → Bool) → within 0 k test ≡ cond (test []) 1 0
unfolding within boards
within-nil k test = rw (le-leb 0 k (omega arith)) (zero-add (cond (test []) 1 0))

-- the lists with first count c
unfoldable starting : ℕ → ℕ → (List ℕ → Bool) → ℕ → ℕ
starting n k test c = count_by (λ cs. nat_le (sum (c ∷ cs)) k && test (c ∷ cs)) (boards n)

-- no list with more checkers on its first point than allowed is counted
starting-none : (n k : ℕ) (test : List ℕ → Bool) (c : ℕ) → k < c → starting n k test c ≡ 0
unfolding starting
starting-none n k test c h =
    sum_by-zero _ (boards n)
    (λ cs.
    ap (λ b. cond {A = ℕ} b 1 0)
    (and_left (nat_le (sum (c ∷ cs)) k) (test (c ∷ cs))
    (lt-leb (sum (c ∷ cs)) k (omega (arith, sum-cons c cs)))))

-- an empty first point may be left out
starting-zero : (n k : ℕ) (test : List ℕ → Bool) →
    starting n k test 0 ≡ within n k (λ cs. test (0 ∷ cs))
unfolding starting within
starting-zero n k test = refl

-- a checker less on the first point, and one less allowed
starting-suc : (n k : ℕ) (test : List ℕ → Bool) (c : ℕ) →
    starting n (suc k) test (suc c) ≡ starting n k (λ y. test (one_more y)) c
unfolding starting one_more
starting-suc n k test c =
    sum_by-equal _ _ (boards n)
    (λ cs. ap (λ b. cond {A = ℕ} (b && test (suc c ∷ cs)) 1 0) (room cs)) where
      room : (cs : List ℕ) → nat_le (sum (suc c ∷ cs)) (suc k) ≡ nat_le (sum (c ∷ cs)) k
      room cs =
          let e : sum (suc c ∷ cs) ≡ suc (c + sum cs) = omega (arith, sum-cons (suc c) cs) in
          ap (λ m. nat_le m (suc k)) e ∙ nat_le-suc (c + sum cs) k
          ∙ ap (λ m. nat_le m k) (sym (sum-cons c cs))

-- tests that agree on the lists with first count c
starting-same : (n k : ℕ) (p q : List ℕ → Bool) (c : ℕ) →
    ((cs : List ℕ) → p (c ∷ cs) ≡ q (c ∷ cs)) → starting n k p c ≡ starting n k q c
unfolding starting
starting-same n k p q c e =
    sum_by-equal _ _ (boards n)
    (λ cs. ap (λ b. cond {A = ℕ} (nat_le (sum (c ∷ cs)) k && b) 1 0) (e cs))

-- a count by the first count, within at most 15 checkers
within-by_first : (n k : ℕ) (test : List ℕ → Bool) →
    within (suc n) k test ≡ sum_by (starting n k test) (numbers_from 0 16)
unfolding within starting
within-by_first n k test = count_by-boards n (λ y. nat_le (sum y) k && test y)

-- with no checker at all the first point is empty
pub within-zero : (n : ℕ) (test : List ℕ → Bool) →
    within (suc n) 0 test ≡ within n 0 (λ cs. test (0 ∷ cs))
within-zero n test =
    within-by_first n 0 test
    ∙ sum_by-sixteen (starting n 0 test) (starting-none n 0 test 16 (omega arith))
    ∙ rest
    ∙ starting-zero n 0 test where
      rest : starting n 0 test 0 + sum_by (λ c. starting n 0 test (suc c)) (numbers_from 0 16)
          ≡ starting n 0 test 0
      rest =
          omega (
            arith,
            sum_by-zero (λ c. starting n 0 test (suc c)) (numbers_from 0 16)
                (λ c. starting-none n 0 test (suc c) (omega arith)),
          )

-- else the first point is empty, or it has one checker more than on a list with one checker fewer
pub within-suc : (n k : ℕ) (test : List ℕ → Bool) → k < 15 →
    within (suc n) (suc k) test
    ≡ within n (suc k) (λ cs. test (0 ∷ cs)) + within (suc n) k (λ y. test (one_more y))
within-suc n k test h =
    within-by_first n (suc k) test
    ∙ sum_by-sixteen (starting n (suc k) test) (starting-none n (suc k) test 16 (omega arith))
    ∙ ap (λ m. m + sum_by (λ c. starting n (suc k) test (suc c)) (numbers_from 0 16))
    (starting-zero n (suc k) test)
    ∙ ap (λ m. within n (suc k) (λ cs. test (0 ∷ cs)) + m)
    (sum_by-equal _ _ (numbers_from 0 16) (starting-suc n k test)
    ∙ sym (within-by_first n k (λ y. test (one_more y))))

-- tests that agree on each list with a first count, counts that agree
pub within-same_cons : (n k : ℕ) (p q : List ℕ → Bool) →
    ((c : ℕ) (cs : List ℕ) → p (c ∷ cs) ≡ q (c ∷ cs)) →
    within (suc n) k p ≡ within (suc n) k q
within-same_cons n k p q e =
    within-by_first n k p
    ∙ sum_by-equal _ _ (numbers_from 0 16) (λ c. starting-same n k p q c (e c))
    ∙ sym (within-by_first n k q)

-- a test that fails on the lists with first count c
starting-false : (n k : ℕ) (test : List ℕ → Bool) (c : ℕ) →
    ((cs : List ℕ) → test (c ∷ cs) ≡ false) → starting n k test c ≡ 0
unfolding starting
starting-false n k test c e =
    sum_by-zero _ (boards n)
    (λ cs.
    ap (λ b. cond {A = ℕ} b 1 0)
    (and_right (nat_le (sum (c ∷ cs)) k) (test (c ∷ cs)) (e cs)))

-- a test that fails on each list with a first count
pub within-none_cons : (n k : ℕ) (test : List ℕ → Bool) →
    ((c : ℕ) (cs : List ℕ) → test (c ∷ cs) ≡ false) → within (suc n) k test ≡ 0
within-none_cons n k test e =
    within-by_first n k test
    ∙ sum_by-zero _ (numbers_from 0 16) (λ c. starting-false n k test c (e c))

-- what one test lets pass is what two others do
pub within-add : (n k : ℕ) (p q r : List ℕ → Bool) →
    ((y : List ℕ) → cond {A = ℕ} (p y) 1 0 ≡ cond (q y) 1 0 + cond (r y) 1 0) →
    within n k p ≡ within n k q + within n k r
unfolding within
within-add n k p q r e =
    sum_by-add _ _ _ (boards n) (λ y. both (nat_le (sum y) k) (p y) (q y) (r y) (e y)) where
      both : (b u v w : Bool) → cond {A = ℕ} u 1 0 ≡ cond v 1 0 + cond w 1 0 →
          cond {A = ℕ} (b && u) 1 0 ≡ cond (b && v) 1 0 + cond (b && w) 1 0
      both true u v w h = h
      both false u v w h = refl

-- a test that fails on each list
pub within-none : (n k : ℕ) (test : List ℕ → Bool) → ((y : List ℕ) → test y ≡ false) →
    within n k test ≡ 0
unfolding within
within-none n k test e =
    sum_by-zero _ (boards n)
    (λ y. ap (λ b. cond {A = ℕ} b 1 0) (and_right (nat_le (sum y) k) (test y) (e y)))

-- a test that fails on each list of n counts with at most k checkers
pub within-none_on : (n k : ℕ) (test : List ℕ → Bool) → k ≤ 15 →
    ((y : List ℕ) → length y ≡ n → sum y ≤ k → test y ≡ false) → within n k test ≡ 0
within-none_on zero k test h e =
    within-nil k test ∙ ap (λ b. cond {A = ℕ} b 1 0) (e [] refl (omega arith))
within-none_on (suc n) zero test h e =
    within-zero n test
    ∙ within-none_on n zero _ h
    (λ cs l few. e (0 ∷ cs) (omega arith) (omega (arith, sum-cons 0 cs)))
within-none_on (suc n) (suc k) test h e =
    let empty : within n (suc k) (λ cs. test (0 ∷ cs)) ≡ 0 =
    within-none_on n (suc k) _ h
    (λ cs l few. e (0 ∷ cs) (omega arith) (omega (arith, sum-cons 0 cs))) in
    let some : within (suc n) k (λ y. test (one_more y)) ≡ 0 =
    within-none_on (suc n) k _ (omega arith)
    (λ y l few. e (one_more y) (length-one_more y ∙ l) (omega (arith, sum-one_more y))) in
    omega (arith, within-suc n k test (omega arith), empty, some)

-- a test that passes on a list with first count c, where that is known of the rest
within-some_first : (cs : List ℕ) →
    ((k : ℕ) (test : List ℕ → Bool) → k ≤ 15 → sum cs ≤ k → test cs ≡ true →
    0 < within (length cs) k test) →
    (c k : ℕ) (test : List ℕ → Bool) → k ≤ 15 → c + sum cs ≤ k → test (c ∷ cs) ≡ true →
    0 < within (suc (length cs)) k test
unfolding one_more
within-some_first cs rest zero zero test h few e =
    rw (within-zero (length cs) test) (rest 0 (λ ds. test (0 ∷ ds)) h (omega arith) e)
within-some_first cs rest zero (suc k) test h few e =
    omega (
      arith,
      within-suc (length cs) k test (omega arith),
      rest (suc k) (λ ds. test (0 ∷ ds)) h (omega arith) e,
    )
within-some_first cs rest (suc c) zero test h few e = absurd (omega arith)
within-some_first cs rest (suc c) (suc k) test h few e =
    omega (
      arith,
      within-suc (length cs) k test (omega arith),
      within-some_first cs rest c k (λ y. test (one_more y)) (omega arith) (omega arith) e,
    )

-- a test that passes on some list of at most k checkers
pub within-some : (x : List ℕ) (k : ℕ) (test : List ℕ → Bool) → k ≤ 15 → sum x ≤ k →
    test x ≡ true → 0 < within (length x) k test
within-some [] k test h few e = rw (within-nil k test, e) (omega arith)
within-some (c ∷ cs) k test h few e =
    within-some_first cs (within-some cs) c k test h (omega (arith, sum-cons c cs)) e

-- every list in the box of n counts has n counts
pub boards_have_length : (n : ℕ) → count_by (λ y. not (length y == n)) (boards n) ≡ 0
unfolding boards
boards_have_length zero = refl
boards_have_length (suc n) =
    count_by-boards n (λ y. not (length y == suc n))
    ∙ sum_by-zero _ (numbers_from 0 16)
    (λ c.
    sum_by-equal _ _ (boards n)
    (λ cs. ap (λ b. cond {A = ℕ} (not b) 1 0) (eq-suc (length cs) n))
    ∙ boards_have_length n)

-- the first list that passes a test, where there is one,
-- and fails another test that no list passes
pub record IsFound (p bad : List ℕ → Bool) (xs : List (List ℕ)) (y : List ℕ) : Type 0 where
  pub is_first : find p xs ≡ Some y
  pub passes : p y ≡ true
  pub good : bad y ≡ false

-- a count of a list with one more in front
count_by-cons : (p : List ℕ → Bool) (x : List ℕ) (xs : List (List ℕ)) →
    count_by p (x ∷ xs) ≡ cond (p x) 1 0 + count_by p xs
count_by-cons p x xs = sum_by-cons (λ y. cond {A = ℕ} (p y) 1 0) x xs

-- a search finds nothing, and then none is counted, or such a list
pub found_or_none : (p bad : List ℕ → Bool) (xs : List (List ℕ)) → count_by bad xs ≡ 0 →
    ((find p xs ≡ None) × (count_by p xs ≡ 0)) ⊎ ((y : List ℕ) × IsFound p bad xs y)
found_or_none p bad [] none = inl (refl, refl)
found_or_none p bad (x ∷ xs) none =
    by_head (p x) refl (bad x) refl
    (found_or_none p bad xs (omega (arith, count_by-cons bad x xs))) where
      bad-none : bad x ≡ true → ⊥
      bad-none f = omega (arith, none, count_by-cons bad x xs, ap (λ b. cond {A = ℕ} b 1 0) f)

      by_head : (b : Bool) → p x ≡ b → (c : Bool) → bad x ≡ c →
          ((find p xs ≡ None) × (count_by p xs ≡ 0)) ⊎ ((y : List ℕ) × IsFound p bad xs y) →
          ((find p (x ∷ xs) ≡ None) × (count_by p (x ∷ xs) ≡ 0))
          ⊎ ((y : List ℕ) × IsFound p bad (x ∷ xs) y)
      by_head true e true f rest = absurd (bad-none f)
      by_head true e false f rest =
          inr (
            x,
            record { is_first = ap (λ b. cond b (Some x) (find p xs)) e; passes = e; good = f },
          )
      by_head false e c f (inl h) =
          inl (
            ap (λ b. cond b (Some x) (find p xs)) e ∙ h.0,
            omega (arith, h.1, count_by-cons p x xs, ap (λ b. cond {A = ℕ} b 1 0) e),
          )
      by_head false e c f (inr h) =
          inr (
            h.0,
            record {
              is_first = ap (λ b. cond b (Some x) (find p xs)) e ∙ h.1.is_first;
              passes = h.1.passes;
              good = h.1.good;
            },
          )
