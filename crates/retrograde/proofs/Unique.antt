-- The record of a position follows from those of lower rank: whoever makes it makes this one.
use Rattle.std.proofs.Common.{◌≡◌, ◌⊎◌, ⊎_elim, ℕ, zero, suc, ◌+◌, ◌*◌, ◌%◌, ◌<◌, ◌≤◌, List, length, sum_by, refl, sym}
use Rattle.std.proofs.Common.{ap, subst, ◌∙◌, arith, ext_get_or, slice_index}
use Rattle.std.proofs.lemmas.List.{get_or_past}
use Rattle.race_model.specs.Prelude.{Board, IsPosition, IsFinished, pips, Throw, all_rolls, roll_at, roll_index, weight}
use Rattle.race_model.specs.Prelude.{Legal, rank, count_to, most_rolls, whole, IsBestPlay}
use Rattle.race_model.proofs.Ranks.BestPlays.{best-agree, best-one, legal_lower}
use Rattle.race_model.proofs.Ranks.RankOrder.{rank_bound, at_rank-rank}
use Rattle.race_model.proofs.Strategies.Horizons.{within_22, most_rolls-most}
use Rattle.race_model.proofs.Numbers.Sums.{sum_by-equal}
use Rattle.race_model.proofs.Dice.RollSums.{roll_index-range}
use Rattle.retrograde.specs.BuiltRecords.{shares_of, sum_of_means, sum_of_shares, IsMade, IsReached}
use Rattle.retrograde.specs.AllRecords.{AllRecords, mean_of_rank, plays_of_rank, shares_of_rank}
use Rattle.retrograde.specs.KeptRecords.{IsRecordOfRank}
use Rattle.retrograde.proofs.Best.{finished-stays}
use Rattle.retrograde.proofs.Next.{ReachedBelow, can-pull_shares, play-lower, play-beyond}
use Rattle.retrograde.proofs.Turns.{total-small}

-- the best play by the means of the results is the best by all means
best-by_all : (means others : List ℕ) (x : Board) (v : Throw) (r : ℕ)
    → ((q : ℕ) → q < length means → slice_index means q ≡ slice_index others q)
    → ((z : Board) → Legal x v z → rank z < length means) → IsBestPlay (slice_index means) x v r →
    IsBestPlay (slice_index others) x v r
best-by_all means others x v r agree held best =
    best-agree (slice_index means) (slice_index others) (Legal x v) r
    (λ z legal. agree (rank z) (held z legal)) best

-- nothing adds up to nothing
none-sum : sum_by (λ v. 0) all_rolls ≡ 0
unfolding all_rolls
none-sum = refl

-- a position of at most 58 pips
module _ (full : AllRecords) (x : Board) (at : IsPosition x) (low : pips x ≤ 58) where
  under : rank x < count_to 58
  under = (rank_bound x 58 at).1 low

  -- what is said of its record
  made : IsMade full.means full.spreads x (mean_of_rank full (rank x))
      (plays_of_rank full (rank x))
      (shares_of_rank full (rank x))
  made = subst (λ (y : Board). IsMade full.means full.spreads y (mean_of_rank full (rank x))
      (plays_of_rank full (rank x))
      (shares_of_rank full (rank x))) (at_rank-rank x at) (full.made.made (rank x) under)

  reached : IsReached x (mean_of_rank full (rank x)) (shares_of_rank full (rank x))
  reached =
      subst
      (λ (y : Board). IsReached y (mean_of_rank full (rank x)) (shares_of_rank full (rank x)))
      (at_rank-rank x at) (full.made.reached (rank x) under)

  reached-below : ReachedBelow (rank x) full.means full.spreads
  reached-below r lt = let all = under in full.made.reached r (omega arith)

  mean-small : mean_of_rank full (rank x) ≤ 22 * whole
  mean-small =
      let is = reached in
      let small = total-small is.strategy (within_22 x is.strategy at (omega arith) is.fits) in
      let same = is.total_is in
      omega arith

  -- plays and shares that agree everywhere are those of the rank
  plays-are : (plays : List ℕ) → length plays ≡ 21
      → ((i : ℕ) → i < 21 → slice_index plays i ≡ slice_index (plays_of_rank full (rank x)) i)
      → plays ≡ plays_of_rank full (rank x)
  plays-are plays len each =
      ext_get_or 0 plays (plays_of_rank full (rank x)) (len ∙ sym (full.plays_len (rank x) under))
      (λ i lt. each i (omega arith))

  shares-are : (shares : List ℕ) → length shares ≡ 23
      → ((k : ℕ) → k < 23 → slice_index shares k ≡ slice_index (shares_of_rank full (rank x)) k)
      → shares ≡ shares_of_rank full (rank x)
  shares-are shares len each =
      ext_get_or 0 shares (shares_of_rank full (rank x))
      (len ∙ sym (full.shares_len (rank x) under))
      (λ k lt. each k (omega arith))

  -- the record of the finished position
  pub record-at_end : IsFinished x → (mean : ℕ) (plays shares : List ℕ) → mean ≡ 0
      → ((i : ℕ) → i < 21 → slice_index plays i ≡ 0) → length plays ≡ 21
      → slice_index shares 0 ≡ whole
      → ((k : ℕ) → slice_index shares (suc k) ≡ 0) → length shares ≡ 23
      → IsRecordOfRank full (rank x) mean plays shares
  record-at_end none mean plays shares mean_is none_played plays_len start more shares_len =
      record {
        mean_is = mean_is ∙ sym (made.mean_at_end none);
        plays_are = plays-are plays plays_len (λ i lt. none_played i lt ∙ sym (stays i lt));
        shares_are = shares-are shares shares_len each;
      } where
        stays : (i : ℕ) → i < 21 → slice_index (plays_of_rank full (rank x)) i ≡ 0
        stays i lt =
            let best = made.best i lt in
            sym best.reached.2 ∙ finished-stays x (roll_at i) best.reached.0 at none best.reached.1

        each : (k : ℕ) → k < 23 → slice_index shares k
            ≡ slice_index (shares_of_rank full (rank x)) k
        each zero lt = start ∙ sym (made.start_at_end none)
        each (suc k) lt = more k ∙ sym (made.share_at_end none k)

  -- the record of a position that isn't finished, with the best plays by the means of lower rank
  module _ (unfinished : ¬ IsFinished x) (means : List ℕ)
      (agree : (r : ℕ) → r < length means → slice_index means r ≡ mean_of_rank full r)
      (next : rank x ≡ length means)
      (plays : List ℕ) (len : length plays ≡ 21)
      (best : (i : ℕ) → i < 21 →
      IsBestPlay (slice_index means) x (roll_at i) (slice_index plays i)) where
    pub results-held : (v : Throw) (z : Board) → Legal x v z → rank z < length means
    results-held v z legal = omega (arith, legal_lower x v z at unfinished legal, next)

    -- they are the best by all means
    best-all : (i : ℕ) → i < 21 →
        IsBestPlay (slice_index full.means) x (roll_at i) (slice_index plays i)
    best-all i lt =
        best-by_all means full.means x (roll_at i) (slice_index plays i) agree
        (results-held (roll_at i)) (best i lt)

    pub plays-same : plays ≡ plays_of_rank full (rank x)
    plays-same = plays-are plays len
        (λ i lt. best-one (slice_index full.means) x (roll_at i) (slice_index plays i)
        (slice_index (plays_of_rank full (rank x)) i) (best-all i lt) (made.best i lt))

    -- they lead to ranks that are made
    pub plays-held : (i : ℕ) → i < 21 → slice_index plays i < length means
    plays-held i lt =
        let leads = (best i lt).reached in
        omega (arith, results-held (roll_at i) leads.0 leads.1, leads.2)

    -- the mean can be pulled, and is that of the rank
    mean-is : 36 * mean_of_rank full (rank x) ≡ 36 * whole + sum_of_means full.means plays
    mean-is =
        made.mean_before unfinished
        ∙ ap (λ (ps : List ℕ). 36 * whole + sum_of_means full.means ps) (sym plays-same)

    pub mean-exact : (mean : ℕ)
        × ((mean ≤ 22 * whole) × (36 * mean ≡ 36 * whole + sum_of_means full.means plays))
    mean-exact = (mean_of_rank full (rank x), (mean-small, mean-is))

    mean-same : (mean : ℕ) → 36 * mean ≡ 36 * whole + sum_of_means full.means plays →
        mean ≡ mean_of_rank full (rank x)
    mean-same mean e = let is = mean-is in omega arith

    -- the shares can be pulled
    pub shares-exact : (k : ℕ) → k < 22 → sum_of_shares full.spreads plays k % 36 ≡ 0
    shares-exact =
        can-pull_shares x at unfinished low full.means full.spreads reached-below plays best-all

    -- no play has a share of as many rolls as a game from here can take
    pub plays-beyond : (i k : ℕ) → i < 21 → most_rolls (pips x) ≤ k →
        slice_index (shares_of_rank full (slice_index plays i)) k ≡ 0
    plays-beyond i k lt beyond = ⊎_elim
        (λ few.
        play-beyond x at unfinished low full.means full.spreads reached-below plays best-all i k lt
        beyond few)
        (λ past.
        let lower = play-lower x at unfinished low full.means full.spreads reached-below plays
        best-all i lt in
        let len = full.shares_len (slice_index plays i) (omega (arith, lower, under)) in
        get_or_past (shares_of_rank full (slice_index plays i)) k 0 (omega (arith, len, past)))
        (split k)
      where
        split : (k : ℕ) → (k ≤ 22) ⊎ (23 ≤ k)
        split k = grind arith

    pub no-last : sum_of_shares full.spreads plays 22 ≡ 0
    no-last =
        sum_by-equal
        (λ v.
        weight v
        * slice_index (shares_of full.spreads (slice_index plays (roll_index v))) 22)
        (λ v. 0) all_rolls
        (λ v.
        let room = play-beyond x at unfinished low full.means full.spreads reached-below plays
        best-all (roll_index v) 22 (roll_index-range v) (most_rolls-most (pips x) low)
        (omega arith) in
        ap (λ n. weight v * n) room ∙ times-none (weight v))
        ∙ none-sum
      where
        times-none : (n : ℕ) → n * 0 ≡ 0
        times-none n = omega arith

    -- and are those of the rank
    pub record-before : (mean : ℕ) (shares : List ℕ) →
        36 * mean ≡ 36 * whole + sum_of_means full.means plays
        → slice_index shares 0 ≡ 0
        → ((k : ℕ) → k < 22 →
        36 * slice_index shares (suc k) ≡ sum_of_shares full.spreads plays k) →
        length shares ≡ 23
        → IsRecordOfRank full (rank x) mean plays shares
    record-before mean shares mean_is start moved shares_len = record {
      mean_is = mean-same mean mean_is;
      plays_are = plays-same;
      shares_are = shares-are shares shares_len each;
    } where
      each : (k : ℕ) → k < 23 → slice_index shares k ≡ slice_index (shares_of_rank full (rank x)) k
      each zero lt = start ∙ sym (made.start_before unfinished)
      each (suc k) lt =
          let ours = moved k (omega arith) in
          let theirs = made.share_before unfinished k (omega arith) in
          let same = ap (λ (ps : List ℕ). sum_of_shares full.spreads ps k) plays-same in
          omega arith
