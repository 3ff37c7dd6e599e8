-- The records of the positions to 58 pips exist, whether or not anybody has made them: for each
-- roll one of the results is the best, and what is pulled from the records of lower rank is exact.
use Rattle.std.proofs.Common.{◌≡◌, ◌⊎◌, inl, inr, ⊎_elim, ℕ, zero, suc, ◌+◌, ◌*◌, ◌/◌, ◌%◌, ◌^◌, ◌<◌, ◌≤◌, List, []}
use Rattle.std.proofs.Common.{◌∷◌, ◌++◌, length, get_or, map, replicate, refl, sym, ap, subst, ◌∙◌, arith, slice_index}
use Rattle.std.proofs.Common.{slice_index_or}
use Rattle.std.specs.List.{range_with_len}
use Rattle.std.proofs.Math.ListN.{get_or-append}
use Rattle.std.proofs.Math.Seq.{get_or-append_seam}
use Rattle.std.proofs.lemmas.List.{get_or_past}
use Rattle.std.proofs.lemmas.List.FromFn.{get_or-map-range_with_len, length-map-range_with_len, get_or-range_with_len}
use Rattle.std.proofs.lemmas.List.Sums.{get_or-le-sum_by}
use Rattle.race_model.specs.Prelude.{Board, IsPosition, IsFinished, pips, Throw, roll_at, rank, at_rank, count_to}
use Rattle.race_model.specs.Prelude.{all_results, whole, count_of, IsBestPlay}
use Rattle.race_model.proofs.Plays.Enumerated.{IsIn, results_listed, listed_results}
use Rattle.race_model.proofs.Plays.Results.{finished_or_not, legal_somewhere, legal_position}
use Rattle.race_model.proofs.Ranks.RankOrder.{at_rank_position}
use Rattle.race_model.proofs.Ranks.PositionTotals.{rank-range, at_rank_under, count_to-58}
use Rattle.race_model.proofs.Strategies.Horizons.{within_22, most_rolls-most}
use Rattle.race_model.proofs.Strategies.Spreads.{counts_add_up}
use Rattle.db_layout.proofs.Bytes.{record_reads, mean_fits}
use Rattle.retrograde.specs.BuiltRecords.{sum_of_means, sum_of_shares, IsMade, IsReached}
use Rattle.retrograde.specs.BuiltRecords.{IsReadBack, AreMade, HasRecords}
use Rattle.retrograde.specs.AllRecords.{AllRecords}
use Rattle.retrograde.proofs.Next.{ReachedBelow, can-pull_mean, can-pull_shares, next-is_reached}
use Rattle.retrograde.proofs.Next.{made-at_end, made-before}
use Rattle.retrograde.proofs.Turns.{stop-reached}
use Rattle.retrograde.proofs.Held.{held}
use Rattle.retrograde.proofs.Grown.{one-more}

-- a mean and a rank are no worse than others: a smaller mean, or as great a one and no higher rank
abbrev NoWorse : ℕ → ℕ → ℕ → ℕ → Type 0
NoWorse mean rank other_mean other_rank =
    (mean < other_mean) ⊎ ((mean ≡ other_mean) × (rank ≤ other_rank))

-- one of two is no worse than the other
no-worse_or : (m r n q : ℕ) → NoWorse m r n q ⊎ NoWorse n q m r
no-worse_or m r n q = ⊎_elim
    (λ less. inl (inl less))
    (λ more. ⊎_elim
    (λ same.
    ⊎_elim (λ low. inl (inr (same, low))) (λ high. inr (inr (sym same, high))) (two r q))
    (λ greater. inr (inl greater))
    more)
    (three m n)
  where
    two : (a b : ℕ) → (a ≤ b) ⊎ (b ≤ a)
    two a b = grind arith

    three : (a b : ℕ) → (a < b) ⊎ ((a ≡ b) ⊎ (b < a))
    three a b = grind arith

no-worse_trans : (m r n q o p : ℕ) → NoWorse m r n q → NoWorse n q o p → NoWorse m r o p
no-worse_trans m r n q o p first second = ⊎_elim
    (λ less. ⊎_elim (λ more. inl (omega arith)) (λ same. inl (omega (arith, same.0))) second)
    (λ same. ⊎_elim (λ less. inl (omega (arith, same.0)))
    (λ again. inr (same.0 ∙ again.0, omega (arith, same.1, again.1))) second)
    first

-- one of two positions is no worse than the other, by their means and ranks
abbrev IsNoWorse : List ℕ → Board → Board → Type 0
IsNoWorse means a b =
    NoWorse (slice_index means (rank a)) (rank a) (slice_index means (rank b)) (rank b)

-- of the members of a list, one is no worse than any
record IsBestIn (means : List ℕ) (xs : List Board) : Type 0 where
  best : Board
  member : IsIn best xs
  no_worse : (z : Board) → IsIn z xs → IsNoWorse means best z

best_in : (means : List ℕ) (x : Board) (xs : List Board) → IsBestIn means (x ∷ xs)
best_in means x [] = record {
  best = x;
  member = inl refl;
  no_worse = λ z h. ⊎_elim
      (λ e. inr (ap (λ (y : Board). slice_index means (rank y)) (sym e), omega (arith, ap rank e)))
      (λ none. absurd none) h;
}
best_in means x (y ∷ ys) = choose (best_in means y ys)
  where
    same : (z : Board) → z ≡ x → IsNoWorse means x z
    same z e =
        inr (ap (λ (y : Board). slice_index means (rank y)) (sym e), omega (arith, ap rank e))

    trans : (a b c : Board) → IsNoWorse means a b → IsNoWorse means b c → IsNoWorse means a c
    trans a b c =
        no-worse_trans (slice_index means (rank a)) (rank a) (slice_index means (rank b)) (rank b)
        (slice_index means (rank c)) (rank c)

    choose : IsBestIn means (y ∷ ys) → IsBestIn means (x ∷ y ∷ ys)
    choose rest = ⊎_elim
        (λ first. record {
          best = x;
          member = inl refl;
          no_worse = λ z h. ⊎_elim (same z) (λ k. trans x rest.best z first (rest.no_worse z k)) h;
        })
        (λ later. record {
          best = rest.best;
          member = inr rest.member;
          no_worse =
              λ z h. ⊎_elim (λ e. trans rest.best x z later (same z e)) (λ k. rest.no_worse z k) h;
        })
        (no-worse_or (slice_index means (rank x)) (rank x) (slice_index means (rank rest.best))
        (rank rest.best))

-- of a list that has a member, one is no worse than any
best_of_some : (means : List ℕ) (xs : List Board) (y : Board) → IsIn y xs → IsBestIn means xs
best_of_some means [] y h = absurd h
best_of_some means (x ∷ xs) y h = best_in means x xs

-- so each throw has a best play
pub best-exists : (means : List ℕ) (x : Board) (v : Throw) →
    (r : ℕ) × IsBestPlay (slice_index means) x v r
best-exists means x v =
    let some = legal_somewhere x v in
    play (best_of_some means (all_results x v) some.0 (listed_results x v some.0 some.1))
  where
    at_most : (m r n q : ℕ) → NoWorse m r n q → m ≤ n
    at_most m r n q h = ⊎_elim (λ less. omega arith) (λ same. omega (arith, same.0)) h

    lowest : (m r n q : ℕ) → NoWorse m r n q → n ≡ m → r ≤ q
    lowest m r n q h e = ⊎_elim (λ less. absurd (omega arith)) (λ same. same.1) h

    play : IsBestIn means (all_results x v) → (r : ℕ) × IsBestPlay (slice_index means) x v r
    play is = (
      rank is.best,
      record {
        reached = (is.best, results_listed x v is.best is.member, refl);
        least =
            λ z legal.
            at_most (slice_index means (rank is.best)) (rank is.best) (slice_index means (rank z))
            (rank z)
            (is.no_worse z (listed_results x v z legal));
        lowest =
            λ z legal e.
            lowest (slice_index means (rank is.best)) (rank is.best) (slice_index means (rank z))
            (rank z)
            (is.no_worse z (listed_results x v z legal)) e;
      },
    )

-- no share of a strategy is over the whole
shares-whole : (x : Board) (mean : ℕ) (shares : List ℕ) → IsPosition x → pips x ≤ 58 →
    length shares ≡ 23
    → IsReached x mean shares → (k : ℕ) → slice_index shares k ≤ whole
shares-whole x mean shares at low len reached k = ⊎_elim
    (λ inside.
    let all =
    counts_add_up reached.strategy
    (within_22 x reached.strategy at (omega arith) reached.fits) in
    let one =
    get_or-le-sum_by (count_of reached.strategy) (range_with_len 0 23) k 0 (omega arith) in
    let place = get_or-range_with_len 0 23 k 0 inside in
    let is = reached.counts k (omega arith) in
    let same = ap (count_of reached.strategy) (place ∙ zero-add k) in
    omega (arith, all, one, same, is))
    (λ past. omega (arith, get_or_past shares k 0 (omega arith)))
    (split k)
  where
    split : (k : ℕ) → (k < 23) ⊎ (23 ≤ k)
    split k = grind arith

    zero-add : (n : ℕ) → 0 + n ≡ n
    zero-add n = omega arith

-- no share of a strategy is over 128 bits
share-fits : (share : ℕ) → share ≤ whole → share < 2 ^ 128
unfolding whole
share-fits share le = omega arith

-- the record of a rank, over the records of lower rank
pub record HasNext (n : ℕ) (means : List ℕ) (spreads : List (List ℕ)) : Type 0 where
  pub mean : ℕ
  pub played : List ℕ
  pub shares : List ℕ
  pub made : IsMade means spreads (at_rank n) mean played shares
  pub reached : IsReached (at_rank n) mean shares
  pub reads : IsReadBack (at_rank n) mean played shares
  pub plays_len : length played ≡ 21
  pub shares_len : length shares ≡ 23

-- what was made of a position can be read again
next-of : (n : ℕ) (means : List ℕ) (spreads : List (List ℕ)) (mean : ℕ) (played shares : List ℕ)
    → pips (at_rank n) ≤ 58 → mean ≤ 22 * whole → length played ≡ 21 → length shares ≡ 23
    → IsMade means spreads (at_rank n) mean played shares → IsReached (at_rank n) mean shares
    → HasNext n means spreads
next-of n means spreads mean played shares low small plays_len shares_len made reached = record {
  mean = mean;
  played = played;
  shares = shares;
  made = made;
  reached = reached;
  reads =
      λ version.
      record_reads version (pips (at_rank n)) mean played shares
      (most_rolls-most (pips (at_rank n)) low)
      (held means spreads (at_rank n) mean played shares (at_rank_position n) made reached version)
      (mean_fits mean small) plays_len short shares_len wide;
  plays_len = plays_len;
  shares_len = shares_len;
} where
  split : (k : ℕ) → (k < 21) ⊎ (21 ≤ k)
  split k = grind arith

  short : (i : ℕ) → get_or played i 0 < 2 ^ 16
  short i = ⊎_elim
      (λ inside.
      let best = made.best i inside in
      let at =
      legal_position (at_rank n) (roll_at i) best.reached.0 (at_rank_position n)
      best.reached.1 in
      omega (arith, rank-range best.reached.0 at, best.reached.2))
      (λ past. omega (arith, get_or_past played i 0 (omega arith)))
      (split i)

  wide : (k : ℕ) → get_or shares k 0 < 2 ^ 128
  wide k = share-fits (get_or shares k 0)
      (shares-whole (at_rank n) mean shares (at_rank_position n) low shares_len reached k)

-- that of the finished position
zeros : (m i : ℕ) → slice_index (replicate m 0) i ≡ 0
zeros zero i = omega arith
zeros (suc m) zero = refl
zeros (suc m) (suc i) = zeros m i

next-at_end : (n : ℕ) (means : List ℕ) (spreads : List (List ℕ)) → pips (at_rank n) ≤ 58 →
    IsFinished (at_rank n)
    → HasNext n means spreads
next-at_end n means spreads low none =
    next-of n means spreads 0 (replicate 21 0) (whole ∷ replicate 22 0) low (omega arith) refl refl
    (made-at_end means spreads (at_rank n) 0 (replicate 21 0) (whole ∷ replicate 22 0)
    (at_rank_position n) none refl
    (zeros 21) refl (zeros 22))
    (stop-reached (at_rank n) 0 (whole ∷ replicate 22 0) none refl refl (zeros 22))

-- the record of a position that isn't finished
module _ (n : ℕ) (means : List ℕ) (spreads : List (List ℕ)) (low : pips (at_rank n) ≤ 58)
    (unfinished : ¬ IsFinished (at_rank n))
    (reached : ReachedBelow (rank (at_rank n)) means spreads) where
  play : ℕ → ℕ
  play i = (best-exists means (at_rank n) (roll_at i)).0

  played : List ℕ
  played = map play (range_with_len 0 21)

  played-len : length played ≡ 21
  unfolding played
  played-len = length-map-range_with_len play 0 21

  best : (i : ℕ) → i < 21 →
      IsBestPlay (slice_index means) (at_rank n) (roll_at i) (slice_index played i)
  unfolding play played
  best i lt =
      let here = get_or-map-range_with_len play 0 21 i i 0 lt (omega arith) in
      subst (λ (r : ℕ). IsBestPlay (slice_index means) (at_rank n) (roll_at i) r) (sym here)
      (best-exists means (at_rank n) (roll_at i)).1

  mean : (mean : ℕ) × ((mean ≤ 22 * whole) × (36 * mean ≡ 36 * whole + sum_of_means means played))
  mean =
      can-pull_mean (at_rank n) (at_rank_position n) unfinished low means spreads reached played
      best

  share : ℕ → ℕ
  share k = sum_of_shares spreads played k / 36

  shares : List ℕ
  shares = 0 ∷ map share (range_with_len 0 22)

  shares-len : length shares ≡ 23
  unfolding shares
  shares-len = ap (λ k. k + 1) (length-map-range_with_len share 0 22)

  start : slice_index shares 0 ≡ 0
  unfolding shares
  start = refl

  moved : (k : ℕ) → k < 22 → 36 * slice_index shares (suc k) ≡ sum_of_shares spreads played k
  unfolding share shares
  moved k lt =
      let here = get_or-map-range_with_len share 0 22 k k 0 lt (omega arith) in
      let exact =
      can-pull_shares (at_rank n) (at_rank_position n) unfinished low means spreads reached
      played best k lt in
      whole-part (sum_of_shares spreads played k) (slice_index shares (suc k)) here exact
    where
      whole-part : (m q : ℕ) → q ≡ m / 36 → m % 36 ≡ 0 → 36 * q ≡ m
      whole-part m q e f = omega arith

  next-before : HasNext n means spreads
  next-before =
      next-of n means spreads mean.0 played shares low mean.1.0 played-len shares-len
      (made-before means spreads (at_rank n) mean.0 played shares unfinished best mean.1.1 start
      moved)
      (next-is_reached (at_rank n) (at_rank_position n) unfinished low means spreads reached
      played best mean.0 shares
      mean.1.1 start moved)

-- so each rank has one
next-exists : (n : ℕ) (means : List ℕ) (plays spreads : List (List ℕ)) → n < count_to 58
    → AreMade n means plays spreads → HasNext n means spreads
next-exists n means plays spreads under are =
    let place = at_rank_under 58 n under in
    ⊎_elim
    (next-at_end n means spreads place.1)
    (λ unfinished. next-before n means spreads place.1 unfinished
    (λ r lt. are.reached r (omega (arith, place.0))))
    (finished_or_not (at_rank n))

-- lists of one length, and one more
all-of : (n : ℕ) (xs : List (List ℕ)) (y : List ℕ) (size : ℕ) → length xs ≡ n
    → ((r : ℕ) → r < n → length (slice_index_or xs r []) ≡ size) → length y ≡ size
    → (r : ℕ) → r < suc n → length (slice_index_or (xs ++ y ∷ []) r []) ≡ size
all-of n xs y size len each last r lt = ⊎_elim
    (λ inside. ap length (get_or-append xs (y ∷ []) [] r (omega arith)) ∙ each r inside)
    (λ at. subst (λ (m : ℕ). length (get_or (xs ++ y ∷ []) m []) ≡ size) (len ∙ sym at)
    (ap length (get_or-append_seam xs y [] []) ∙ last))
    (split r n lt)
  where
    split : (a b : ℕ) → a < suc b → (a < b) ⊎ (a ≡ b)
    split a b h = grind arith

-- one rank more
records-more : (n : ℕ) → n < count_to 58 → HasRecords n → HasRecords (suc n)
records-more n under has = more (next-exists n has.means has.plays has.spreads under has.made)
  where
    low : n < 54264
    low = omega (arith, count_to-58)

    more : HasNext n has.means has.spreads → HasRecords (suc n)
    more next = record {
      means = has.means ++ next.mean ∷ [];
      plays = has.plays ++ next.played ∷ [];
      spreads = has.spreads ++ next.shares ∷ [];
      made = subst
          (λ (m : ℕ). AreMade m (has.means ++ next.mean ∷ []) (has.plays ++ next.played ∷ [])
          (has.spreads ++ next.shares ∷ []))
          (omega arith)
          (one-more n has.means has.plays has.spreads next.mean next.played next.shares low
          has.made next.made
          next.reached next.reads);
      plays_len = all-of n has.plays next.played 21 has.made.plays_len has.plays_len
          next.plays_len;
      shares_len =
          all-of n has.spreads next.shares 23 has.made.spreads_len has.shares_len next.shares_len;
    }

-- the records of the first ranks
records-to : (n : ℕ) → n ≤ count_to 58 → HasRecords n
records-to zero le = record {
  means = [];
  plays = [];
  spreads = [];
  made = record {
    means_len = refl;
    plays_len = refl;
    spreads_len = refl;
    made = λ r lt. absurd (omega arith);
    reached = λ r lt. absurd (omega arith);
    reads = λ r lt. absurd (omega arith);
  };
  plays_len = λ r lt. absurd (omega arith);
  shares_len = λ r lt. absurd (omega arith);
}
records-to (suc n) le = records-more n le (records-to n (omega arith))

-- the records of all positions of at most 58 pips
pub all-records : AllRecords
all-records = records-to (count_to 58) (omega arith)
