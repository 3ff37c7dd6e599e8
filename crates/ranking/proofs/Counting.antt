-- How the counts of a position are found again from the number of positions that come later.
use Rattle.std.proofs.Common.{◌≡◌, ◌≢◌, ℕ, zero, suc, ◌+◌, ◌-◌, ◌*◌, ◌<◌, ◌≤◌, List, ◌∷◌, length, slice_index}
use Rattle.std.proofs.Common.{slice_set, drop, replicate, get_or-set_same, get_or-set_other, if◌then◌else◌, refl, sym}
use Rattle.std.proofs.Common.{◌∙◌, ap, subst, add-one, inl, inr, below_more, arith, ◌⊎◌, sum}
use Rattle.std.proofs.lemmas.Bool.{lt-ltb, cases_lt, cases_order}
use Rattle.std.proofs.lemmas.List.{drop_more, length-drop, length-set}
use Rattle.std.proofs.lemmas.Grind.{same_number_lists}
use Rattle.race_model.specs.Prelude.{Board, IsPosition, pips_from, pips, rank, at_rank, first_of, count_to}
use Rattle.race_model.specs.Positions.{count}
use Rattle.race_model.proofs.Numbers.Sums.{sum-cons}
use Rattle.race_model.proofs.Ranks.RankCounts.{later, split_all}
use Rattle.race_model.proofs.Ranks.RankCounts as counts
use Rattle.race_model.proofs.Ranks.RankOrder as order
use Rattle.race_model.proofs.Ranks.PositionTotals as totals
use Rattle.ranking.specs.Tables.{used, ways}
use Rattle.ranking.proofs.TableCounts.{used-is, used-none, used-step}
use Rattle.ranking.proofs.Reading.{IsRead, IsNext, read_start, read_next}

-- c checkers fit on point p, and with fewer there more than t positions come later
pub record IsCounted (p k m t c : ℕ) : Type 0 where
  pub fits : c ≤ k
  pub weight : p * c ≤ m
  pub least : (j : ℕ) → j < c → t < used p (k - j) (m - p * j)

-- where lists have a checker on a point, there is one and it fits
used_room : (p k m t : ℕ) → p ≤ 6 → k ≤ 15 → t < used p k m → (0 < k) × (p ≤ m)
used_room p zero m t h l more = absurd (omega (arith, used-none p m h))
used_room p (suc k) m t h l more = by_room (cases_lt m p) where
  by_room : (m < p) ⊎ (p ≤ m) → (0 < suc k) × (p ≤ m)
  by_room (inl low) =
      absurd (omega (
        arith,
        more,
        (used-step p k m h (omega arith)
            ∙ ap (λ b. if b then 0 else ways p k (m - p)) (lt-ltb m p low)),
      ))
  by_room (inr room) = (omega arith, room)

-- where more come later one checker more fits
pub counted_more : (p k m t c : ℕ) → p ≤ 6 → k ≤ 15 → IsCounted p k m t c →
    t < used p (k - c) (m - p * c) → IsCounted p k m t (c + 1)
counted_more p k m t c h l w more =
    let room = used_room p (k - c) (m - p * c) t h (omega arith) more in
    record {
      fits = omega (arith, room.0);
      weight = omega (arith, room.1, w.weight);
      least = below_more (λ j. t < used p (k - j) (m - p * j)) c w.least more;
    }

-- fewer lists come later than have a checker more than j on
-- the first point, where that has more than j
later-fewer : (p k d j : ℕ) (cs : List ℕ) → j < d → d + sum cs ≤ k → k ≤ 15 → length cs + p ≡ 6 →
    later p k (d ∷ cs) < used p (k - j) (pips_from p (d ∷ cs) - p * j)
later-fewer p k d j cs low few h long =
    let e = d - suc j in
    let l = k - suc j in
    let d_is : d ≡ e + suc j = omega arith in
    let k_is : k - j ≡ suc l = omega arith in
    let same : k - d ≡ l - e = omega arith in
    let heavy : p * d ≡ p * (e + suc j) = ap (λ z. p * z) d_is in
    let room : p ≤ pips_from p (d ∷ cs) - p * j = omega (arith, heavy) in
    let m_is : pips_from p (d ∷ cs) - p * j - p ≡ pips_from p (e ∷ cs) = omega (arith, heavy) in
    omega (
      arith,
      ap (λ q. used p q (pips_from p (d ∷ cs) - p * j)) k_is,
      used-is (length cs) p (suc l) (pips_from p (d ∷ cs) - p * j) long,
      counts.used-more (length cs) p l (pips_from p (d ∷ cs) - p * j) (omega arith) room,
      ap (λ q. counts.ways (suc (length cs)) p l q) m_is,
      split_all (e ∷ cs) p l (omega (arith, sum-cons e cs)) (omega arith),
      ap (λ q. counts.used (length cs) p q (pips_from (suc p) cs)) same,
      ap (λ q. later (suc p) q cs) same,
    )

-- the count that is found is that of the list
found_list : (p k m t c d : ℕ) (cs : List ℕ) → p ≤ 6 → k ≤ 15 → length cs + p ≡ 6 →
    d + sum cs ≤ k → pips_from p (d ∷ cs) ≡ m → later p k (d ∷ cs) ≡ t →
    IsCounted p k m t c → used p (k - c) (m - p * c) ≤ t → c ≡ d
found_list p k m t c d cs h l long few weighs left w enough = by_order (cases_order c d) where
  by_order : (c ≡ d) ⊎ ((c < d) ⊎ (d < c)) → c ≡ d
  by_order (inl e) = e
  by_order (inr (inl low)) =
      absurd (omega (
        arith,
        enough,
        left,
        later-fewer p k d c cs low few l long,
        ap (λ q. used p (k - c) (q - p * c)) weighs,
      ))
  by_order (inr (inr high)) =
      let m_is : m - p * d ≡ pips_from (suc p) cs = omega arith in
      absurd (omega (
        arith,
        w.least d high,
        left,
        used-is (length cs) p (k - d) (pips_from (suc p) cs) long,
        ap (λ q. used p (k - d) q) m_is,
      ))

-- the count that is found is that of the position
pub count_found : (x : List ℕ) (p k m s t c : ℕ) → IsPosition x → 1 ≤ p → p ≤ 6 →
    IsRead x p k m s → s + t ≡ later 1 15 x →
    IsCounted p k m t c → used p (k - c) (m - p * c) ≤ t → c ≡ count x p
count_found x zero k m s t c q low high r left w enough = absurd (omega arith)
count_found x (suc i) k m s t c q low high r left w enough =
    let short : i < length x = omega (arith, q.six) in
    let back : suc i - 1 ≡ i = omega arith in
    let next : i + 1 ≡ suc i = omega arith in
    let d : drop (suc i - 1) x ≡ slice_index x i ∷ drop (suc i) x =
    ap (λ j. drop j x) back ∙ drop_more x i 0 short
    ∙ ap (λ j. slice_index x i ∷ drop j x) next in
    let few : sum (slice_index x i ∷ drop (suc i) x) ≤ k = subst (λ ys. sum ys ≤ k) d r.few in
    let weighs : pips_from (suc i) (slice_index x i ∷ drop (suc i) x) ≡ m =
    subst (λ ys. pips_from (suc i) ys ≡ m) d r.weighs in
    let added : s + later (suc i) k (slice_index x i ∷ drop (suc i) x) ≡ later 1 15 x =
    subst (λ ys. s + later (suc i) k ys ≡ later 1 15 x) d r.added in
    found_list (suc i) k m t c (slice_index x i) (drop (suc i) x) high r.room
    (omega (arith, length-drop (suc i) x, q.six))
    (omega (arith, few, sum-cons (slice_index x i) (drop (suc i) x))) weighs (omega arith) w
    enough

-- the pip count of a position lies where its rank does
pub pips-are : (x : Board) (m : ℕ) → IsPosition x → first_of m ≤ rank x →
    rank x < first_of (m + 1) → pips x ≡ m
pips-are x m p low high = by_order (cases_order (pips x) m) where
  by_order : (pips x ≡ m) ⊎ ((pips x < m) ⊎ (m < pips x)) → pips x ≡ m
  by_order (inl e) = e
  by_order (inr (inl less)) =
      absurd (omega (
        arith,
        low,
        (order.rank_within x p).1,
        order.first_of-suc (pips x),
        order.first_of-rises (suc (pips x)) m less,
      ))
  by_order (inr (inr more)) =
      let e : m + 1 ≡ suc m = add-one m in
      absurd (omega (
        arith,
        high,
        (order.rank_within x p).0,
        ap first_of e,
        order.first_of-rises (suc m) (pips x) more,
      ))

-- what the position of a rank has, where its pip count is found
pub record IsStart (index m start : ℕ) : Type 0 where
  pub is_position : IsPosition (at_rank index)
  pub weighs : pips (at_rank index) ≡ m
  pub inside : 1 ≤ start
  pub under : index ≤ start - 1
  pub left : start - 1 - index ≡ later 1 15 (at_rank index)

-- so it starts
pub start_at : (index m start : ℕ) → index < 54264 → first_of m ≤ index →
    index < first_of (m + 1) → start ≡ first_of (m + 1) → IsStart index m start
start_at index m start low from to e =
    let p : IsPosition (at_rank index) = order.at_rank_position index in
    let r : rank (at_rank index) ≡ index = totals.rank-at_rank index low in
    let w : pips (at_rank index) ≡ m = pips-are (at_rank index) m p (omega arith) (omega arith) in
    let e2 : m + 1 ≡ suc m = add-one m in
    let whole : rank (at_rank index) + suc (later 1 15 (at_rank index)) ≡ first_of (m + 1) =
    order.rank-later (at_rank index) p ∙ ap count_to w ∙ sym (order.first_of-suc m)
    ∙ ap first_of (sym e2) in
    record {
      is_position = p;
      weighs = w;
      inside = omega arith;
      under = omega arith;
      left = omega arith;
    }

-- a point counts one more than its place in the list
count-at : (x : List ℕ) (p : ℕ) → 1 ≤ p → count x p ≡ slice_index x (p - 1)
count-at x zero h = absurd (omega arith)
count-at x (suc i) h = let e : suc i - 1 ≡ i = omega arith in ap (slice_index x) (sym e)

-- the counts of the points below p are written; t positions come later than x
pub record IsWritten (x : List ℕ) (p k m t : ℕ) (counts : List ℕ) : Type 0 where
  pub s : ℕ
  pub read : IsRead x p k m s
  pub left : s + t ≡ later 1 15 x
  pub long : length counts ≡ 6
  pub same : (j : ℕ) → j < p - 1 → slice_index counts j ≡ slice_index x j

-- at first none is written
pub written_start : (x : List ℕ) (m t : ℕ) → IsPosition x → pips x ≡ m → m ≤ 90 →
    t ≡ later 1 15 x → IsWritten x 1 15 m t (replicate 6 0)
written_start x m t p e h l = record {
  s = 0;
  read = subst (λ n. IsRead x 1 15 n 0) e (read_start x p (omega arith));
  left = omega arith;
  long = refl;
  same = λ j h. absurd (omega arith);
}

-- one count more is written
pub record IsWrittenNext (x : List ℕ) (p k m t c : ℕ) (counts : List ℕ) : Type 0 where
  pub enough : used p (k - c) (m - p * c) ≤ t
  pub next : IsWritten x (p + 1) (k - c) (m - p * c) (t - used p (k - c) (m - p * c))
      (slice_set counts (p - 1) c)

-- the count that is found is written
pub written_next : (x : List ℕ) (p k m t c : ℕ) (counts : List ℕ) → IsPosition x → 1 ≤ p → p ≤ 6 →
    IsWritten x p k m t counts →
    IsCounted p k m t c → used p (k - c) (m - p * c) ≤ t → IsWrittenNext x p k m t c counts
written_next x p k m t c counts q low high w counted enough =
    let c_is : c ≡ count x p =
    count_found x p k m w.s t c q low high w.read w.left counted enough in
    let n : IsNext x p k m w.s c = read_next x p k m w.s c q low high c_is w.read in
    record {
      enough = enough;
      next = record {
        s = w.s + used p (k - c) (m - p * c);
        read = n.next;
        left = omega (arith, w.left);
        long = length-set counts (p - 1) c ∙ w.long;
        same = λ j h. same j h (cases_order j (p - 1)) c_is;
      };
    } where
      same : (j : ℕ) → j < p + 1 - 1 → (j ≡ p - 1) ⊎ ((j < p - 1) ⊎ (p - 1 < j)) → c ≡ count x p →
          slice_index (slice_set counts (p - 1) c) j ≡ slice_index x j
      same j h (inl e) c_is =
          rw e
          (let lt : p - 1 < length counts = omega (arith, w.long) in
          get_or-set_same counts (p - 1) c 0 lt ∙ c_is ∙ count-at x p low)
      same j h (inr (inl less)) c_is =
          let ne : j ≢ p - 1 = omega arith in
          get_or-set_other counts (p - 1) j c 0 ne ∙ w.same j less
      same j h (inr (inr more)) c_is = absurd (omega arith)

-- all counts are written: it is the position
pub written_all : (x : List ℕ) (p k m t : ℕ) (counts : List ℕ) → IsPosition x → p ≡ 7 →
    IsWritten x p k m t counts → counts ≡ x
written_all x p k m t counts q e w =
    same_number_lists counts x (omega (arith, w.long, q.six))
    (λ j h. w.same j (omega (arith, w.long)))
