-- Records that were made stay right while more are added.
use Rattle.std.proofs.Common.{◌≡◌, ℕ, ◌+◌, ◌*◌, ◌<◌, List, [], ◌∷◌, ◌++◌, sym, ap, subst, ◌∙◌, arith, below_more}
use Rattle.std.proofs.Common.{length-append, slice_index, slice_index_or}
use Rattle.std.proofs.Math.ListN.{get_or-append}
use Rattle.std.proofs.Math.Seq.{get_or-append_seam}
use Rattle.race_model.specs.Prelude.{Board, IsPosition, IsFinished, roll_at, rank, at_rank, whole}
use Rattle.race_model.proofs.Ranks.RankOrder.{at_rank_position}
use Rattle.race_model.proofs.Ranks.PositionTotals.{rank-at_rank}
use Rattle.race_model.proofs.Ranks.BestPlays.{legal_lower, play-agree_reached}
use Rattle.db_layout.proofs.Weighted.{weighted-by_index}
use Rattle.retrograde.specs.BuiltRecords.{shares_of, IsMade, IsReached, IsReadBack, AreMade}

-- a record stays right over others whose records of lower rank are the same
made-agree : (means others : List ℕ) (spreads more : List (List ℕ)) (x : Board) (mean : ℕ)
    (plays shares : List ℕ) → IsPosition x →
    ((r : ℕ) → r < rank x → slice_index means r ≡ slice_index others r) →
    ((r : ℕ) → r < rank x → shares_of spreads r ≡ shares_of more r) →
    IsMade means spreads x mean plays shares → IsMade others more x mean plays shares
made-agree means others spreads more x mean plays shares at same same_shares made = record {
  best =
      λ i lt.
      play-agree_reached (slice_index means) (slice_index others) x (roll_at i)
      (slice_index plays i)
      (λ unfinished z legal. same (rank z) (legal_lower x (roll_at i) z at unfinished legal))
      (made.best i lt);
  mean_at_end = made.mean_at_end;
  mean_before = λ unfinished.
      made.mean_before unfinished
      ∙ ap (λ n. 36 * whole + n)
      (weighted-by_index (λ i. slice_index means (slice_index plays i))
      (λ i. slice_index others (slice_index plays i))
      (λ i lt. same (slice_index plays i) (below unfinished i lt)));
  start_at_end = made.start_at_end;
  start_before = made.start_before;
  share_at_end = made.share_at_end;
  share_before = λ unfinished k few.
      made.share_before unfinished k few
      ∙ weighted-by_index (λ i. slice_index (shares_of spreads (slice_index plays i)) k)
      (λ i. slice_index (shares_of more (slice_index plays i)) k)
      (λ i lt.
      ap (λ (xs : List ℕ). slice_index xs k)
      (same_shares (slice_index plays i) (below unfinished i lt)));
} where
  below : ¬ IsFinished x → (i : ℕ) → i < 21 → slice_index plays i < rank x
  below unfinished i lt =
      let z = (made.best i lt).reached in
      omega (arith, z.2, legal_lower x (roll_at i) z.0 at unfinished z.1)

-- one record more
module _ (n : ℕ) (means : List ℕ) (plays spreads : List (List ℕ)) (mean : ℕ)
    (played shares : List ℕ) (low : n < 54264) (are : AreMade n means plays spreads)
    (made : IsMade means spreads (at_rank n) mean played shares)
    (reached : IsReached (at_rank n) mean shares)
    (reads : IsReadBack (at_rank n) mean played shares) where
  abbrev means_now : List ℕ
  means_now = means ++ mean ∷ []

  abbrev plays_now : List (List ℕ)
  plays_now = plays ++ played ∷ []

  abbrev spreads_now : List (List ℕ)
  spreads_now = spreads ++ shares ∷ []

  -- what was made stays where it was
  old_mean : (r : ℕ) → r < n → slice_index means r ≡ slice_index means_now r
  old_mean r lt = sym (get_or-append means (mean ∷ []) 0 r (omega (arith, are.means_len)))

  old_played : (r : ℕ) → r < n → slice_index_or plays r [] ≡ slice_index_or plays_now r []
  old_played r lt = sym (get_or-append plays (played ∷ []) [] r (omega (arith, are.plays_len)))

  old_shares : (r : ℕ) → r < n → shares_of spreads r ≡ shares_of spreads_now r
  old_shares r lt = sym (get_or-append spreads (shares ∷ []) [] r (omega (arith, are.spreads_len)))

  -- and what is new stands after it
  new_mean : mean ≡ slice_index means_now n
  new_mean = sym (rw (← are.means_len) (get_or-append_seam means mean [] 0))

  new_played : played ≡ slice_index_or plays_now n []
  new_played = sym (rw (← are.plays_len) (get_or-append_seam plays played [] []))

  new_shares : shares ≡ shares_of spreads_now n
  new_shares = sym (rw (← are.spreads_len) (get_or-append_seam spreads shares [] []))

  -- so what is said of each record is said of the new ones
  said : (P : ℕ → ℕ → List ℕ → List ℕ → Type 0) →
      ((r : ℕ) → r < n →
      P r (slice_index means r) (slice_index_or plays r []) (shares_of spreads r)) →
      P n mean played shares → (r : ℕ) → r < n + 1 →
      P r (slice_index means_now r) (slice_index_or plays_now r []) (shares_of spreads_now r)
  said P old new =
      below_more
      (λ r. P r (slice_index means_now r) (slice_index_or plays_now r []) (shares_of spreads_now r))
      n
      (λ r lt.
      at_three (P r) (slice_index means r) (slice_index means_now r) (slice_index_or plays r [])
      (slice_index_or plays_now r []) (shares_of spreads r) (shares_of spreads_now r)
      (old_mean r lt) (old_played r lt) (old_shares r lt) (old r lt))
      (at_three (P n) mean (slice_index means_now n) played (slice_index_or plays_now n []) shares
      (shares_of spreads_now n) new_mean new_played new_shares new)
    where
      at_three : (Q : ℕ → List ℕ → List ℕ → Type 0) (m o : ℕ) (ps qs xs ys : List ℕ) → m ≡ o →
          ps ≡ qs → xs ≡ ys → Q m ps xs → Q o qs ys
      at_three Q m o ps qs xs ys first second third is =
          subst (λ k. Q k qs ys) first (subst (λ l. Q m l ys) second (subst (Q m ps) third is))

  -- a record that was right is right over the new ones
  stays : (r mean : ℕ) (played shares : List ℕ) → r < n + 1 →
      IsMade means spreads (at_rank r) mean played shares →
      IsMade means_now spreads_now (at_rank r) mean played shares
  stays r mean played shares lt is =
      let ranked : rank (at_rank r) ≡ r = rank-at_rank r (omega (arith, lt, low)) in
      made-agree means means_now spreads spreads_now (at_rank r) mean played shares
      (at_rank_position r) (λ q less. old_mean q (omega (arith, less, ranked, lt)))
      (λ q less. old_shares q (omega (arith, less, ranked, lt))) is

  pub one-more : AreMade (n + 1) means_now plays_now spreads_now
  one-more = record {
    means_len = length-append means (mean ∷ []) ∙ ap (λ k. k + 1) are.means_len;
    plays_len = length-append plays (played ∷ []) ∙ ap (λ k. k + 1) are.plays_len;
    spreads_len = length-append spreads (shares ∷ []) ∙ ap (λ k. k + 1) are.spreads_len;
    made =
        said (λ r m ps xs. IsMade means_now spreads_now (at_rank r) m ps xs)
        (λ r lt.
        stays r (slice_index means r) (slice_index_or plays r []) (shares_of spreads r)
        (omega (arith, lt)) (are.made r lt))
        (stays n mean played shares (omega arith) made);
    reached = said (λ r m ps xs. IsReached (at_rank r) m xs) are.reached reached;
    reads = said (λ r m ps xs. IsReadBack (at_rank r) m ps xs) are.reads reads;
  }
