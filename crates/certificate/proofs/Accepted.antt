-- What an accepted file records of a position of at most its bound.
use Rattle.std.proofs.Common.{◌≡◌, ℕ, ◌*◌, ◌<◌, ◌≤◌, List, sum, ap, subst, ◌∙◌, arith, le_trans}
use Rattle.std.specs.List.{range_with_len}
use Rattle.std.proofs.lemmas.List.Sums.{sum-map}
use Rattle.race_model.specs.Prelude.{Board, IsPosition, pips, Throw, roll_index, rank, count_to, bound_of, record_at}
use Rattle.race_model.specs.Prelude.{mean_of, play_of, share_of, mean, mean_at, play, play_at, spread, spread_at, whole}
use Rattle.race_model.specs.Prelude.{recorded, IsPlayed, IsLocalDatabase, IsLocalAt, IsRightAt}
use Rattle.race_model.proofs.RightFiles.RightFacts.{shares_add_up}
use Rattle.race_model.proofs.Strategies.Horizons.{ends_in_22}
use Rattle.race_model.proofs.RightFiles.Bounded.{mean_at_most}
use Rattle.race_model.proofs.Ranks.RankOrder.{rank_bound}
use Rattle.race_model.proofs.Plays.Results.{legal_position, legal_pips}
use Rattle.race_model.proofs.RightFiles.Right.{bound_of-most, right_of_local}
use Rattle.certificate.specs.RecordNumbers.{shares_of}
use Rattle.certificate.proofs.RecordBytes.{mean-of_record, share-of_record, play-of_record}

-- the bytes that were lent for a position are its record
module _ (f bytes : List ℕ) (x : Board) (r : ℕ) (lent : bytes ≡ record_at f r)
    (ranked : r ≡ rank x) where
  pub mean-of_lent : mean_of bytes ≡ mean f x
  mean-of_lent = ap mean_of lent ∙ (mean-of_record f r ∙ ap (mean_at f) ranked)

  pub share-of_lent : (k : ℕ) → share_of bytes k ≡ spread f x k
  share-of_lent k =
      ap (λ b. share_of b k) lent ∙ (share-of_record f r k ∙ ap (λ n. spread_at f n k) ranked)

  pub play-of_lent : (v : Throw) → play_of bytes (roll_index v) ≡ play f x v
  play-of_lent v =
      ap (λ b. play_of b (roll_index v)) lent
      ∙ (play-of_record f r (roll_index v) ∙ ap (λ n. play_at f n (roll_index v)) ranked)

  pub total-of_lent : sum (shares_of bytes) ≡ sum (shares_of (record_at f (rank x)))
  total-of_lent = ap (λ b. sum (shares_of b)) (lent ∙ ap (record_at f) ranked)

module _ (f : List ℕ) (local : IsLocalDatabase f) (x : Board) (at : IsPosition x)
    (low : pips x ≤ bound_of f) where
  -- what is recorded of it is right
  pub accepted-right : IsRightAt f x
  accepted-right = (right_of_local f local).book x at low

  -- positions of no higher rank meet the equations
  accepted-lower : (z : Board) → IsPosition z → rank z ≤ rank x → IsLocalAt f z
  accepted-lower z is le =
      let mine = (rank_bound x (bound_of f) at).1 low in
      local.at_each z is ((rank_bound z (bound_of f) is).0 (omega arith))

  -- the recorded mean is within 22 rolls
  pub accepted-mean : mean f x ≤ 22 * whole
  accepted-mean =
      mean_at_most f 22 x (ends_in_22 x at (le_trans low (bound_of-most f local.file))) at
      (λ z is le. (accepted-lower z is le).means)

  -- the recorded shares add up to the whole
  pub accepted-total : sum (shares_of (record_at f (rank x))) ≡ whole
  unfolding shares_of spread_at
  accepted-total =
      sum-map (share_of (record_at f (rank x))) (range_with_len 0 23)
      ∙ shares_add_up f (right_of_local f local) x at low

  -- the recorded rank of a roll is under the count, and its position is a result
  pub accepted-play : (v : Throw) → IsPlayed f x v
  accepted-play = accepted-right.played

  pub accepted-under : (v : Throw) → play f x v < count_to (bound_of f)
  accepted-under v =
      let played = accepted-play v in
      let y = recorded f x v in
      let is = legal_position x v y at played.legal in
      subst (λ r. r < count_to (bound_of f)) played.ranked
      ((rank_bound y (bound_of f) is).1 (le_trans (legal_pips x v y played.legal) low))
