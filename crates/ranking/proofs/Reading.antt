-- How a position is read point by point: what is left of it, and how many positions come after it.
use Rattle.std.proofs.Common.{◌≡◌, ℕ, zero, suc, ◌+◌, ◌-◌, ◌*◌, ◌<◌, ◌≤◌, List, [], ◌∷◌, length, slice_index, drop}
use Rattle.std.proofs.Common.{refl, sym, ◌∙◌, ap, subst, add-one, arith, sum}
use Rattle.std.proofs.lemmas.List.{drop_more, drop_all, length-drop}
use Rattle.race_model.specs.Prelude.{IsPosition, pips_from, pips, rank, first_of}
use Rattle.race_model.specs.Positions.{count}
use Rattle.race_model.proofs.Numbers.Sums.{sum-cons}
use Rattle.race_model.proofs.Ranks.RankCounts.{later}
use Rattle.race_model.proofs.Ranks.RankOrder.{rank-later, first_of-suc}
use Rattle.race_model.proofs.Ranks.PositionTotals.{rank-range, count_to-most}
use Rattle.ranking.specs.Tables.{used}
use Rattle.ranking.proofs.TableCounts.{used-is}

-- from point p on, at most k checkers are left with m pips in all; s positions after x are counted
pub record IsRead (x : List ℕ) (p k m s : ℕ) : Type 0 where
  pub few : sum (drop (p - 1) x) ≤ k
  pub room : k ≤ 15
  pub weighs : pips_from p (drop (p - 1) x) ≡ m
  pub low : m ≤ 90
  pub added : s + later p k (drop (p - 1) x) ≡ later 1 15 x

-- with c checkers on point p, those after x that have more there are counted next
pub record IsNext (x : List ℕ) (p k m s c : ℕ) : Type 0 where
  pub fits : c ≤ k
  pub weight : p * c ≤ m
  pub next : IsRead x (p + 1) (k - c) (m - p * c) (s + used p (k - c) (m - p * c))

-- at first all is left
pub read_start : (x : List ℕ) → IsPosition x → pips x ≤ 90 → IsRead x 1 15 (pips x) 0
read_start x p h = record {
  few = p.few;
  room = omega arith;
  weighs = refl;
  low = h;
  added = omega arith;
}

-- the next point of a list that is known
read_list : (x cs : List ℕ) (p k m s c : ℕ) → 1 ≤ p → length cs + p ≡ 6 → drop (p - 1) x ≡ c ∷ cs →
    drop p x ≡ cs → IsRead x p k m s → IsNext x p k m s c
read_list x cs p k m s c h l d e r =
    let few : sum (c ∷ cs) ≤ k = subst (λ ys. sum ys ≤ k) d r.few in
    let weighs : pips_from p (c ∷ cs) ≡ m = subst (λ ys. pips_from p ys ≡ m) d r.weighs in
    let added : s + later p k (c ∷ cs) ≡ later 1 15 x =
    subst (λ ys. s + later p k ys ≡ later 1 15 x) d r.added in
    let rest : drop (p + 1 - 1) x ≡ cs = ap (λ j. drop j x) (omega-back p) ∙ e in
    let m_is : pips_from (suc p) cs ≡ m - p * c = omega arith in
    let p_is : p + 1 ≡ suc p = add-one p in
    record {
      fits = omega (arith, sum-cons c cs);
      weight = omega arith;
      next = record {
        few = subst (λ ys. sum ys ≤ k - c) (sym rest) (omega (arith, sum-cons c cs));
        room = omega (arith, r.room);
        weighs =
            subst (λ ys. pips_from (p + 1) ys ≡ m - p * c) (sym rest)
            (ap (λ q. pips_from q cs) p_is ∙ m_is);
        low = omega (arith, r.low);
        added =
            subst (λ ys. s + used p (k - c) (m - p * c) + later (p + 1) (k - c) ys ≡ later 1 15 x)
            (sym rest)
            (omega (
              arith,
              added,
              used-is (length cs) p (k - c) (m - p * c) l,
              ap (λ j. used p (k - c) j) m_is,
              used-is (length cs) p (k - c) (pips_from (suc p) cs) l,
              ap (λ q. later q (k - c) cs) p_is,
            ));
      };
    } where
      omega-back : (p : ℕ) → p + 1 - 1 ≡ p
      omega-back p = omega arith

-- the next point of a position
pub read_next : (x : List ℕ) (p k m s c : ℕ) → IsPosition x → 1 ≤ p → p ≤ 6 → c ≡ count x p →
    IsRead x p k m s → IsNext x p k m s c
read_next x zero k m s c q low high e r = absurd (omega arith)
read_next x (suc i) k m s c q low high e r =
    let short : i < length x = omega (arith, q.six) in
    let back : suc i - 1 ≡ i = omega arith in
    let next : i + 1 ≡ suc i = omega arith in
    read_list x (drop (suc i) x) (suc i) k m s c low (omega (arith, length-drop (suc i) x, q.six))
    (ap (λ j. drop j x) back ∙ drop_more x i 0 short ∙ ap (λ j. slice_index x i ∷ drop j x) next
    ∙ ap (λ d. d ∷ drop (suc i) x) (sym e)) refl r

-- all points are read: the rank is known from the last position of as many pips
pub read_all : (x : List ℕ) (k m s : ℕ) → IsPosition x → IsRead x 7 k m s →
    rank x + suc s ≡ first_of (pips x + 1)
read_all x k m s p r =
    let none : drop 6 x ≡ [] = drop_all 6 x (omega (arith, p.six)) in
    let added : s + 0 ≡ later 1 15 x =
    subst (λ ys. s + later 7 k ys ≡ later 1 15 x) none r.added in
    let e : pips x + 1 ≡ suc (pips x) = add-one (pips x) in
    omega (arith, rank-later x p, added, first_of-suc (pips x), ap first_of e)

-- the rank from the count of fewer pips than one more
pub record IsRanked (x : List ℕ) (start s : ℕ) : Type 0 where
  pub inside : suc s ≤ start
  pub value : start - 1 - s ≡ rank x
  pub range : rank x < 54264

-- all points are read: the rank is known
pub rank_read : (x : List ℕ) (p k m s start : ℕ) → IsPosition x → p ≡ 7 → IsRead x p k m s →
    start ≡ first_of (pips x + 1) → IsRanked x start s
rank_read x p k m s start q e r f =
    let whole : rank x + suc s ≡ first_of (pips x + 1) =
    read_all x k m s q (subst (λ j. IsRead x j k m s) e r) in
    record { inside = omega arith; value = omega arith; range = rank-range x q }

-- fewer positions come after than there are
pub later-most : (x : List ℕ) → IsPosition x → later 1 15 x < 54264
later-most x p = omega (arith, rank-later x p, count_to-most (pips x))
