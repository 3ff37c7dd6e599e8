-- Where one checker goes, as ranks: by what is left of the position beyond each point.
use Rattle.std.proofs.Common.{◌≡◌, ◌≢◌, ℕ, zero, suc, ◌+◌, ◌-◌, ◌*◌, ◌<◌, ◌≤◌}
use Rattle.std.proofs.Common.{length, get_or, refl, sym, ◌∙◌, ap, subst, add-one, arith}
use Rattle.std.proofs.Common.{get_or-set_other, get_or-set_same, slice_index}
use Rattle.std.proofs.lemmas.List.{drop_all}
use Rattle.std.proofs.Math.Nat.{mul-suc}
use Rattle.race_model.specs.Prelude.{Board, IsPosition, fewer, more, pips, rank, first_of}
use Rattle.race_model.specs.Positions.{count}
use Rattle.race_model.proofs.Plays.Steps.{Loses, one_fewer, one_moved, occupied_place}
use Rattle.race_model.proofs.Ranks.RankCounts.{later}
use Rattle.race_model.proofs.Ranks.RankOrder.{pips-range, rank-later, first_of-suc}
use Rattle.ranking.specs.Tables.{used}
use Rattle.ranking.specs.Chains.{IsLeft, checkers_left, pips_left, sum_from, below, between, above}
use Rattle.ranking.specs.declared.left.Left.{Left}
use Rattle.ranking.proofs.Reading.{IsRead, IsNext, read_start, read_next, later-most}

-- sums of equal values are equal
pub sum_from-equal : (f g : ℕ → ℕ) (a n : ℕ) → ((p : ℕ) → a ≤ p → p < a + n → f p ≡ g p) →
    sum_from f a n ≡ sum_from g a n
unfolding sum_from
sum_from-equal f g a zero each = refl
sum_from-equal f g a (suc n) each =
    omega (
      arith,
      sum_from-equal f g a n (λ p from to. each p from (omega (arith, to))),
      each (a + n) (omega arith) (omega arith),
    )

-- a sum is that of two parts
pub sum_from-parts : (f : ℕ → ℕ) (a m n : ℕ) →
    sum_from f a (m + n) ≡ sum_from f a m + sum_from f (a + m) n
unfolding sum_from
sum_from-parts f a m zero =
    let e : m + 0 ≡ m = omega arith in
    ap (sum_from f a) e ∙ omega arith
sum_from-parts f a m (suc n) =
    let e : m + suc n ≡ suc (m + n) = omega arith in
    let at : a + (m + n) ≡ a + m + n = omega arith in
    ap (sum_from f a) e ∙ omega (arith, sum_from-parts f a m n, ap f at)

-- no part of a sum is greater than it
pub sum_from-part : (f : ℕ → ℕ) (a m n : ℕ) → m ≤ n → sum_from f a m ≤ sum_from f a n
sum_from-part f a m n few =
    let e : m + (n - m) ≡ n = omega (arith, few) in
    omega (arith, sum_from-parts f a m (n - m), ap (sum_from f a) e)

-- what is left of a position is read point by point
reads : (x : Board) → IsPosition x → (n : ℕ) → n ≤ 6 →
    IsRead x (suc n) (checkers_left x n) (pips_left x n) (sum_from (above x 0) 1 n)
unfolding checkers_left pips_left sum_from
reads x q zero few = read_start x q (pips-range x q)
reads x q (suc n) few =
    let k = checkers_left x n in
    let m = pips_left x n in
    let c = count x (suc n) in
    let e : suc n + 1 ≡ suc (suc n) = omega arith in
    let read = read_next x (suc n) k m (sum_from (above x 0) 1 n) c q (omega arith) few refl
    (reads x q n (omega (arith, few))) in
    let at : 1 + n ≡ suc n = omega arith in
    let same : checkers_left x (suc n) + 0 ≡ checkers_left x (suc n) = omega arith in
    let term : used (suc n) (checkers_left x (suc n)) (pips_left x (suc n)) ≡ above x 0 (1 + n) =
    ap (λ j. used (suc n) j (pips_left x (suc n))) (sym same) ∙ ap (above x 0) (sym at) in
    subst (λ j. IsRead x j (k - c) (m - suc n * c) (sum_from (above x 0) 1 n + above x 0 (1 + n))) e
    (subst
    (λ t. IsRead x (suc n + 1) (k - c) (m - suc n * c) (sum_from (above x 0) 1 n + t)) term
    read.next)

-- no more stand on a point than are left
pub fits : (x : Board) (n : ℕ) → IsPosition x → n < 6 →
    IsNext x (suc n) (checkers_left x n) (pips_left x n) (sum_from (above x 0) 1 n)
    (count x (suc n))
fits x n q few =
    read_next x (suc n) (checkers_left x n) (pips_left x n) (sum_from (above x 0) 1 n)
    (count x (suc n)) q (omega arith) (omega (arith, few)) refl (reads x q n (omega (arith, few)))

-- what comes later is the sum over all points
whole : (x : Board) → IsPosition x → later 1 15 x ≡ sum_from (above x 0) 1 6
whole x q =
    let read = reads x q 6 (omega arith) in
    let none = drop_all 6 x (omega (arith, q.six)) in
    let added = subst (λ ys. sum_from (above x 0) 1 6 + later 7 (checkers_left x 6) ys
    ≡ later 1 15 x) none read.added in
    omega (arith, added)

-- what is left beyond more points is no more
pub left-falls : (x : Board) (n m : ℕ) →
    (checkers_left x (m + n) ≤ checkers_left x n) × (pips_left x (m + n) ≤ pips_left x n)
unfolding checkers_left pips_left
left-falls x n zero =
    let e : zero + n ≡ n = omega arith in
    (omega (arith, ap (checkers_left x) e), omega (arith, ap (pips_left x) e))
left-falls x n (suc m) =
    let before = left-falls x n m in
    let e : suc m + n ≡ suc (m + n) = omega arith in (
      omega (arith, before.0, ap (checkers_left x) e),
      omega (arith, before.1, ap (pips_left x) e),
    )

-- what is left beyond a point is no more than there is
pub left-most : (x : Board) (p : ℕ) → IsPosition x → (checkers_left x p ≤ 15) × (pips_left x p ≤ 90)
unfolding checkers_left pips_left
left-most x p q =
    let e : p + 0 ≡ p = omega arith in
    let all = left-falls x 0 p in (
      omega (arith, all.0, ap (checkers_left x) e),
      omega (arith, all.1, ap (pips_left x) e, pips-range x q),
    )

-- a checker on a point is left beyond each point below, with its pips
pub left_below : (x : Board) (s p : ℕ) → IsPosition x → 0 < count x s → p < s →
    (1 ≤ checkers_left x p) × (s ≤ pips_left x p)
left_below x zero p q occupied lower = absurd (omega arith)
left_below x (suc k) p q occupied lower =
    let place = occupied_place x (suc k) occupied in
    let fit = fits x k q (omega (arith, place.1, q.six)) in
    let c = count x (suc k) in
    let one : c ≡ suc (c - 1) = omega arith in
    let product : suc k * c ≡ suc k * (c - 1) + suc k =
    ap (λ n. suc k * n) one ∙ mul-suc (suc k) (c - 1) in
    let e : k - p + p ≡ k = omega (arith, lower) in
    let falls = left-falls x p (k - p) in (
      omega (arith, falls.0, ap (checkers_left x) e, fit.fits, occupied),
      omega (arith, falls.1, ap (pips_left x) e, fit.weight, product),
    )

-- a checker on a point is left beyond no point from its own on
pub left_above : (x : Board) (s p : ℕ) → IsPosition x → 0 < count x s → s ≤ p →
    checkers_left x p + 1 ≤ 15
unfolding checkers_left
left_above x zero p q occupied higher = absurd (omega arith)
left_above x (suc k) p q occupied higher =
    let place = occupied_place x (suc k) occupied in
    let fit = fits x k q (omega (arith, place.1, q.six)) in
    let e : p - suc k + suc k ≡ p = omega (arith, higher) in
    let falls = left-falls x (suc k) (p - suc k) in
    let most = left-most x k q in
    omega (arith, falls.0, ap (checkers_left x) e, fit.fits, occupied, most.0)

-- a checker more on a point leaves the others
put-other : (z : Board) (t p : ℕ) → p ≢ t → count (more z t) p ≡ count z p
put-other z zero p apart = refl
put-other z (suc j) zero apart = refl
put-other z (suc j) (suc k) apart =
    get_or-set_other z j k (get_or z j 0 + 1) 0 (λ e. apart (ap suc e))

-- a checker more on a point is there
put-same : (z : Board) (t : ℕ) → 1 ≤ t → t ≤ length z → count (more z t) t ≡ suc (count z t)
put-same z zero first last = absurd (omega arith)
put-same z (suc j) first last =
    let at = get_or-set_same z j (get_or z j 0 + 1) 0 (omega (arith, last)) in omega (arith, at)

-- a checker fewer on a point leaves the others
taken-other : (x : Board) (s p : ℕ) → p ≢ s → count (fewer x s) p ≡ count x p
taken-other x zero p apart = refl
taken-other x (suc j) zero apart = refl
taken-other x (suc j) (suc k) apart =
    get_or-set_other x j k (get_or x j 0 - 1) 0 (λ e. apart (ap suc e))

-- a checker fewer on a point is gone there
taken-same : (x : Board) (s : ℕ) → 0 < count x s → suc (count (fewer x s) s) ≡ count x s
taken-same x zero occupied = absurd (omega arith)
taken-same x (suc j) occupied =
    let place = occupied_place x (suc j) occupied in
    let at = get_or-set_same x j (get_or x j 0 - 1) 0 (omega (arith, place.1)) in
    omega (arith, at, occupied)

-- what the table has by equal numbers
pub used-equal : (p k l m n : ℕ) → k ≡ l → m ≡ n → used p k m ≡ used p l n
used-equal p k l m n first second = ap (λ j. used p j m) first ∙ ap (used p l) second

-- what is left of one position as it is of another, but for some checkers and pips
IsLess : Board → Board → ℕ → ℕ → ℕ → Type 0
IsLess x y n a b =
    (checkers_left y n ≡ checkers_left x n - a) × (pips_left y n ≡ pips_left x n - b)

-- a point with as many checkers
less_same : (x y : Board) (n a b : ℕ) → count y (suc n) ≡ count x (suc n) → IsLess x y n a b →
    IsLess x y (suc n) a b
unfolding checkers_left pips_left IsLess
less_same x y n a b same before = (
  omega (arith, before.0, same),
  omega (arith, before.1, ap (λ c. suc n * c) same),
)

-- a point with as many checkers, after one more
less_more : (x y : Board) (n b : ℕ) → count y (suc n) ≡ suc (count x (suc n)) →
    IsLess x y n 0 b → IsLess x y (suc n) 1 (b + suc n)
unfolding checkers_left pips_left IsLess
less_more x y n b one before = (
  omega (arith, before.0, one),
  omega (
    arith,
    before.1,
    ap (λ c. suc n * c) one,
    mul-suc (suc n) (count x (suc n)),
  ),
)

-- a point with as many checkers, after one fewer
less_fewer : (x y : Board) (n : ℕ) → suc (count y (suc n)) ≡ count x (suc n) →
    IsLess x y n 1 (suc n) → IsLess x y (suc n) 0 0
unfolding checkers_left pips_left IsLess
less_fewer x y n one before = (
  omega (arith, before.0, one),
  omega (
    arith,
    before.1,
    ap (λ c. suc n * c) (sym one),
    mul-suc (suc n) (count y (suc n)),
  ),
)

-- one checker goes from point s to point t, d pips lower
module _ (x : Board) (s t d : ℕ) (q : IsPosition x) (occupied : 0 < count x s) (on : 1 ≤ t)
    (positive : 1 ≤ d) (far : t + d ≡ s) where
  to : Board
  to = more (fewer x s) t

  place : (0 < s) × (s ≤ length x)
  place = occupied_place x s occupied

  loses : Loses x (more (fewer x s) t) 0 d
  loses =
      let e : s - d ≡ t = omega (arith, far) in
      subst (λ p. Loses x (more (fewer x s) p) 0 d) e
      (one_moved x d s positive (omega (arith, far, on)) occupied)

  other : (p : ℕ) → p ≢ t → p ≢ s → count (more (fewer x s) t) p ≡ count x p
  other p first second = put-other (fewer x s) t p first ∙ taken-other x s p second

  arrives : count (more (fewer x s) t) t ≡ suc (count x t)
  arrives =
      let same = (one_fewer x s occupied).same_length in
      put-same (fewer x s) t on (omega (arith, same, place.1, far))
      ∙ ap suc (taken-other x s t (λ e. omega (arith, e, far, positive)))

  leaves : suc (count (more (fewer x s) t) s) ≡ count x s
  leaves =
      ap suc (put-other (fewer x s) t s (λ e. omega (arith, e, far, positive)))
      ∙ taken-same x s occupied

  low : (n : ℕ) → n < t → IsLess x (more (fewer x s) t) n 0 d
  unfolding checkers_left pips_left IsLess
  low zero lower = (omega arith, omega (arith, loses.pips_lost))
  low (suc n) lower =
      less_same x (more (fewer x s) t) n 0 d
      (other (suc n) (λ e. omega (arith, e, lower)) (λ e. omega (arith, e, lower, far)))
      (low n (omega (arith, lower)))

  middle : (m n : ℕ) → n ≡ m + t → n < s → IsLess x (more (fewer x s) t) n 1 s
  middle zero zero at lower = absurd (omega (arith, at, on))
  middle zero (suc k) at lower =
      let e : t ≡ suc k = omega (arith, at) in
      let sum : d + suc k ≡ s = omega (arith, far, e) in
      subst (λ b. IsLess x (more (fewer x s) t) (suc k) 1 b) sum
      (less_more x (more (fewer x s) t) k d
      (subst (λ p. count (more (fewer x s) t) p ≡ suc (count x p)) e arrives)
      (low k (omega (arith, e))))
  middle (suc m) zero at lower = absurd (omega (arith, at))
  middle (suc m) (suc n) at lower =
      less_same x (more (fewer x s) t) n 1 s
      (other (suc n) (λ e. omega (arith, e, at)) (λ e. omega (arith, e, lower)))
      (middle m n (omega (arith, at)) (omega (arith, lower)))

  top : (m n : ℕ) → n ≡ m + s → IsLess x (more (fewer x s) t) n 0 0
  top zero zero at = absurd (omega (arith, at, place.0))
  top zero (suc k) at =
      let e : s ≡ suc k = omega (arith, at) in
      less_fewer x (more (fewer x s) t) k
      (subst (λ p. suc (count (more (fewer x s) t) p) ≡ count x p) e leaves)
      (subst (λ b. IsLess x (more (fewer x s) t) k 1 b) e
      (middle (k - t) k (omega (arith, e, far, positive)) (omega (arith, e))))
  top (suc m) zero at = absurd (omega (arith, at))
  top (suc m) (suc n) at =
      less_same x (more (fewer x s) t) n 0 0
      (other (suc n) (λ e. omega (arith, e, at, far)) (λ e. omega (arith, e, at)))
      (top m n (omega (arith, at)))

  -- what comes later is the sum of three parts
  pub moved_later : later 1 15 (more (fewer x s) t)
      ≡ sum_from (below x d) 1 (t - 1)
      + (sum_from (between x s) t d + sum_from (above x 0) s (7 - s))
  unfolding IsLess
  moved_later =
      let y = more (fewer x s) t in
      let at : IsPosition y = record {
        six = loses.same_length ∙ q.six;
        few = omega (arith, loses.checkers_lost, q.few);
      } in
      let last : s ≤ 6 = omega (arith, place.1, q.six) in
      let split : t - 1 + (d + (7 - s)) ≡ 6 = omega (arith, on, far, last) in
      let first_end : 1 + (t - 1) ≡ t = omega (arith, on) in
      let first = sum_from-equal (above y 0) (below x d) 1 (t - 1)
      (λ p from to.
      let is = low p (omega (arith, to, on)) in
      used-equal p (checkers_left y p + 0) (checkers_left x p) (pips_left y p) (pips_left x p - d)
      (omega (arith, is.0)) is.1) in
      let second = sum_from-equal (above y 0) (between x s) t d
      (λ p from to.
      let is = middle (p - t) p (omega (arith, from)) (omega (arith, to, far)) in
      used-equal p (checkers_left y p + 0) (checkers_left x p - 1) (pips_left y p)
      (pips_left x p - s) (omega (arith, is.0)) is.1) in
      let third = sum_from-equal (above y 0) (above x 0) s (7 - s)
      (λ p from to.
      let is = top (p - s) p (omega (arith, from)) in
      used-equal p (checkers_left y p + 0) (checkers_left x p + 0) (pips_left y p) (pips_left x p)
      (omega (arith, is.0)) (omega (arith, is.1))) in
      omega (
        arith,
        whole y at,
        ap (sum_from (above y 0) 1) split,
        sum_from-parts (above y 0) 1 (t - 1) (d + (7 - s)),
        ap (λ a. sum_from (above y 0) a (d + (7 - s))) first_end,
        sum_from-parts (above y 0) t d (7 - s),
        ap (λ a. sum_from (above y 0) a (7 - s)) far,
        first,
        second,
        third,
      )

-- one checker is borne off from point s
module _ (x : Board) (s : ℕ) (q : IsPosition x) (occupied : 0 < count x s) where
  still : (n : ℕ) → n < s → IsLess x (fewer x s) n 0 s
  unfolding checkers_left pips_left IsLess
  still zero lower = (omega arith, omega (arith, (one_fewer x s occupied).pips_lost))
  still (suc n) lower =
      less_same x (fewer x s) n 0 s (taken-other x s (suc n) (λ e. omega (arith, e, lower)))
      (still n (omega (arith, lower)))

  -- beyond its point one more is left
  rest : (m n : ℕ) → n ≡ m + s → n ≤ 6 →
      (checkers_left (fewer x s) n ≡ checkers_left x n + 1)
      × (pips_left (fewer x s) n ≡ pips_left x n)
  unfolding checkers_left pips_left IsLess
  rest zero zero at last = absurd (omega (arith, at, (occupied_place x s occupied).0))
  rest zero (suc k) at last =
      let e : s ≡ suc k = omega (arith, at) in
      let before = still k (omega (arith, e)) in
      let one = subst (λ p. suc (count (fewer x s) p) ≡ count x p) e (taken-same x s occupied) in
      let fit = fits x k q (omega (arith, last)) in (
        omega (arith, before.0, one, fit.fits),
        omega (
          arith,
          before.1,
          e,
          ap (λ c. suc k * c) (sym one),
          mul-suc (suc k) (count (fewer x s) (suc k)),
        ),
      )
  rest (suc m) zero at last = absurd (omega (arith, at))
  rest (suc m) (suc n) at last =
      let before = rest m n (omega (arith, at)) (omega (arith, last)) in
      let same = taken-other x s (suc n) (λ e. omega (arith, e, at)) in
      let fit = fits x n q (omega (arith, last)) in (
        omega (arith, before.0, same, fit.fits),
        omega (arith, before.1, ap (λ c. suc n * c) same),
      )

  -- what comes later is the sum of two parts
  pub off_later : later 1 15 (fewer x s)
      ≡ sum_from (below x s) 1 (s - 1) + sum_from (above x 1) s (7 - s)
  unfolding IsLess
  off_later =
      let y = fewer x s in
      let loses = one_fewer x s occupied in
      let place = occupied_place x s occupied in
      let at : IsPosition y = record {
        six = loses.same_length ∙ q.six;
        few = omega (arith, loses.checkers_lost, q.few);
      } in
      let last : s ≤ 6 = omega (arith, place.1, q.six) in
      let split : s - 1 + (7 - s) ≡ 6 = omega (arith, place.0, last) in
      let first_end : 1 + (s - 1) ≡ s = omega (arith, place.0) in
      let first = sum_from-equal (above y 0) (below x s) 1 (s - 1)
      (λ p from to.
      let is = still p (omega (arith, to, place.0)) in
      used-equal p (checkers_left y p + 0) (checkers_left x p) (pips_left y p) (pips_left x p - s)
      (omega (arith, is.0)) is.1) in
      let second = sum_from-equal (above y 0) (above x 1) s (7 - s)
      (λ p from to.
      let is = rest (p - s) p (omega (arith, from)) (omega (arith, to, last)) in
      used-equal p (checkers_left y p + 0) (checkers_left x p + 1) (pips_left y p) (pips_left x p)
      (omega (arith, is.0)) is.1) in
      omega (
        arith,
        whole y at,
        ap (sum_from (above y 0) 1) split,
        sum_from-parts (above y 0) 1 (s - 1) (7 - s),
        ap (λ a. sum_from (above y 0) a (7 - s)) first_end,
        first,
        second,
      )

-- what comes later gives the rank
pub record IsBefore (y : Board) (start later : ℕ) : Type 0 where
  pub few : later < 54264
  pub inside : later < start
  pub value : start - 1 - later ≡ rank y

-- what comes before gives the rank of each position
before : (y : Board) (p l : ℕ) → IsPosition y → p ≡ pips y → later 1 15 y ≡ l →
    IsBefore y (first_of (p + 1)) l
before y p l at weighs is =
    let e : pips y + 1 ≡ suc (pips y) = add-one (pips y) in
    let same : first_of (p + 1) ≡ first_of (pips y + 1) = ap (λ m. first_of (m + 1)) weighs in
    let whole_rank : rank y + suc l ≡ first_of (p + 1) =
    omega (arith, rank-later y at, is, first_of-suc (pips y), ap first_of e, same) in
    record {
      few = omega (arith, is, later-most y at);
      inside = omega (arith, whole_rank);
      value = omega (arith, whole_rank);
    }

-- the rank to which one checker goes down
pub down_before : (x : Board) (s t d : ℕ) → IsPosition x → 0 < count x s → 1 ≤ t → 1 ≤ d →
    t + d ≡ s →
    IsBefore (more (fewer x s) t) (first_of (pips x - d + 1))
    (sum_from (below x d) 1 (t - 1)
    + (sum_from (between x s) t d + sum_from (above x 0) s (7 - s)))
down_before x s t d q occupied on positive far =
    let lost = loses x s t d q occupied on positive far in
    before (more (fewer x s) t) (pips x - d)
    (sum_from (below x d) 1 (t - 1)
    + (sum_from (between x s) t d + sum_from (above x 0) s (7 - s)))
    (record {
      six = lost.same_length ∙ q.six;
      few = omega (arith, lost.checkers_lost, q.few);
    })
    (omega (arith, lost.pips_lost)) (moved_later x s t d q occupied on positive far)

-- the rank to which one checker that is borne off leads
pub off_before : (x : Board) (s : ℕ) → IsPosition x → 0 < count x s →
    IsBefore (fewer x s) (first_of (pips x - s + 1))
    (sum_from (below x s) 1 (s - 1) + sum_from (above x 1) s (7 - s))
off_before x s q occupied =
    let lost = one_fewer x s occupied in
    before (fewer x s) (pips x - s)
    (sum_from (below x s) 1 (s - 1) + sum_from (above x 1) s (7 - s))
    (record {
      six = lost.same_length ∙ q.six;
      few = omega (arith, lost.checkers_lost, q.few);
    })
    (omega (arith, lost.pips_lost)) (off_later x s q occupied)

-- the sum over the upper points alone
pub above-few : (x : Board) (s : ℕ) → IsPosition x → 1 ≤ s → s ≤ 6 →
    sum_from (above x 0) s (7 - s) < 54264
above-few x s q first last =
    let split : s - 1 + (7 - s) ≡ 6 = omega (arith, first, last) in
    let end : 1 + (s - 1) ≡ s = omega (arith, first) in
    omega (
      arith,
      later-most x q,
      whole x q,
      ap (sum_from (above x 0) 1) split,
      sum_from-parts (above x 0) 1 (s - 1) (7 - s),
      ap (λ a. sum_from (above x 0) a (7 - s)) end,
    )

-- a sum from one place more on
sum_from-first : (f : ℕ → ℕ) (a n : ℕ) → sum_from f a (suc n) ≡ f a + sum_from f (suc a) n
unfolding sum_from
sum_from-first f a n =
    let e : suc n ≡ 1 + n = omega arith in
    let next : a + 1 ≡ suc a = omega arith in
    let here : a + 0 ≡ a = omega arith in
    ap (sum_from f a) e
    ∙ omega (arith, sum_from-parts f a 1 n, ap (λ b. sum_from f b n) next, ap f here)

-- the sum over the points between, from one point lower on
pub between-more : (x : Board) (s t d : ℕ) → 1 ≤ d → t + d ≡ s →
    sum_from (between x s) t d
    ≡ between x s t + sum_from (between x s) (s - d + 1) (d - 1)
between-more x s t d positive far =
    let e : d ≡ suc (d - 1) = omega (arith, positive) in
    let next : suc t ≡ s - d + 1 = omega (arith, far) in
    ap (sum_from (between x s) t) e
    ∙ (sum_from-first (between x s) t (d - 1)
    ∙ ap (λ a. between x s t + sum_from (between x s) a (d - 1)) next)

-- what is left beyond a point, by what is left beyond the one below
pub left-next : (x : Board) (n : ℕ) → 1 ≤ n →
    (checkers_left x n ≡ checkers_left x (n - 1) - count x n)
    × (pips_left x n ≡ pips_left x (n - 1) - n * count x n)
unfolding checkers_left pips_left
left-next x zero first = absurd (omega arith)
left-next x (suc n) first =
    let e : suc n - 1 ≡ n = omega arith in
    (omega (arith, ap (checkers_left x) e), omega (arith, ap (pips_left x) e))

-- what is left beyond a point, by what is left beyond the one below, fits
pub left_fits : (x : Board) (n : ℕ) → IsPosition x → 1 ≤ n → n ≤ 6 →
    (count x n ≤ checkers_left x (n - 1)) × (n * count x n ≤ pips_left x (n - 1))
left_fits x zero q first last = absurd (omega arith)
left_fits x (suc n) q first last =
    let e : suc n - 1 ≡ n = omega arith in
    let fit = fits x n q (omega (arith, last)) in
    (omega (arith, fit.fits, ap (checkers_left x) e), omega (arith, fit.weight, ap (pips_left x) e))

-- one value more of a sum
pub sum_from-more : (f : ℕ → ℕ) (a p n : ℕ) → a ≤ p → n ≡ p - a →
    sum_from f a (p + 1 - a) ≡ sum_from f a n + f p
unfolding sum_from
sum_from-more f a p n from few =
    let e : p + 1 - a ≡ suc n = omega (arith, from, few) in
    let at : a + n ≡ p = omega (arith, from, few) in
    ap (sum_from f a) e ∙ omega (arith, ap f at)

-- all is left beyond no point
pub left-start : (x : Board) → (checkers_left x 0 ≡ 15) × (pips_left x 0 ≡ pips x)
unfolding checkers_left pips_left
left-start x = (refl, refl)

-- the sum of no value
pub sum_from-none : (f : ℕ → ℕ) (a n : ℕ) → n ≡ 0 → 0 ≡ sum_from f a n
unfolding sum_from
sum_from-none f a n none = sym (ap (sum_from f a) none)

-- a point with a checker is one of six
pub is_point : (x : Board) (s : ℕ) → IsPosition x → 0 < count x s → (1 ≤ s) × (s ≤ 6)
is_point x s q occupied =
    let place = occupied_place x s occupied in
    (omega (arith, place.0), omega (arith, place.1, q.six))

-- what is left beyond no point is the pip count
pub left_pips : (left : Left) → IsLeft left → slice_index left.pips 0 ≡ pips left.position
left_pips left is = is.pips_at 0 (omega arith) ∙ (left-start left.position).1

-- the rank to which a checker goes down, by what is left
pub down_left : (left : Left) (s t : ℕ) → IsLeft left → 0 < count left.position s → 1 ≤ t → t < s →
    IsBefore (more (fewer left.position s) t) (first_of (slice_index left.pips 0 - (s - t) + 1))
    (sum_from (below left.position (s - t)) 1 (t - 1)
    + (sum_from (between left.position s) t (s - t) + sum_from (above left.position 0) s (7 - s)))
down_left left s t is occupied on lower =
    let x = left.position in
    subst
    (λ p. IsBefore (more (fewer x s) t) (first_of (p - (s - t) + 1))
    (sum_from (below x (s - t)) 1 (t - 1)
    + (sum_from (between x s) t (s - t) + sum_from (above x 0) s (7 - s))))
    (sym (left_pips left is))
    (down_before x s t (s - t) is.position occupied on (omega (arith, lower))
    (omega (arith, lower)))

-- the rank to which a checker that is borne off leads, by what is left
pub off_left : (left : Left) (s : ℕ) → IsLeft left → 0 < count left.position s →
    IsBefore (fewer left.position s) (first_of (slice_index left.pips 0 - s + 1))
    (sum_from (below left.position s) 1 (s - 1) + sum_from (above left.position 1) s (7 - s))
off_left left s is occupied =
    let x = left.position in
    subst
    (λ p. IsBefore (fewer x s) (first_of (p - s + 1))
    (sum_from (below x s) 1 (s - 1) + sum_from (above x 1) s (7 - s)))
    (sym (left_pips left is)) (off_before x s is.position occupied)

-- no checker goes by more pips than there are
pub left_enough : (left : Left) (s : ℕ) → IsLeft left → 0 < count left.position s →
    (s ≤ slice_index left.pips 0) × (slice_index left.pips 0 ≤ 90)
left_enough left s is occupied =
    let lost = one_fewer left.position s occupied in
    let all = left_pips left is in
    (omega (arith, lost.pips_lost, all), omega (arith, all, pips-range left.position is.position))

-- what is left beyond a point that a checker can reach
pub record IsReached (left : Left) (s p : ℕ) : Type 0 where
  pub some : 1 ≤ slice_index left.checkers p
  pub few : slice_index left.checkers p ≤ 15
  pub enough : s ≤ slice_index left.pips p
  pub low : slice_index left.pips p ≤ 90
  pub term : used p (slice_index left.checkers p - 1) (slice_index left.pips p - s)
      ≡ between left.position s p

-- what is left beyond a point that a checker from a higher one can reach
pub reached : (left : Left) (s p : ℕ) → IsLeft left → 0 < count left.position s → p < s →
    IsReached left s p
reached left s p is occupied lower =
    let x = left.position in
    let point = is_point x s is.position occupied in
    let here : p ≤ 6 = omega (arith, point.1, lower) in
    let checkers = is.checkers_at p here in
    let weight = is.pips_at p here in
    let most = left-most x p is.position in
    let least = left_below x s p is.position occupied lower in
    record {
      some = omega (arith, checkers, least.0);
      few = omega (arith, checkers, most.0);
      enough = omega (arith, weight, least.1);
      low = omega (arith, weight, most.1);
      term =
          used-equal p (slice_index left.checkers p - 1) (checkers_left x p - 1)
          (slice_index left.pips p - s) (pips_left x p - s) (ap (λ k. k - 1) checkers)
          (ap (λ m. m - s) weight);
    }
