-- The record of an unfinished position, from the records of lower rank.
use Rattle.std.proofs.Common.{◌≡◌, ℕ, suc, ◌+◌, ◌*◌, ◌%◌, ◌<◌, ◌≤◌, List, sym, ap, subst, ◌∙◌, arith, slice_index}
use Rattle.race_model.specs.Prelude.{Board, IsPosition, IsFinished, pips, Throw, roll_at, roll_index, Legal, rank}
use Rattle.race_model.specs.Prelude.{at_rank, most_rolls, whole, IsBestPlay}
use Rattle.race_model.proofs.Plays.Results.{legal_position}
use Rattle.race_model.proofs.Ranks.RankOrder.{at_rank-rank}
use Rattle.race_model.proofs.Dice.Throws.{roll_of_index}
use Rattle.race_model.proofs.Dice.RollSums.{roll_index-range}
use Rattle.retrograde.specs.BuiltRecords.{shares_of, sum_of_means, sum_of_shares, IsMade, IsReached}
use Rattle.race_model.proofs.Ranks.BestPlays.{legal_lower, play-at_end}
use Rattle.retrograde.proofs.Turns.{mean-exact, shares-exact, none-beyond, pulled-reached}

-- the best play leads to the position of its rank
pub best-legal : (means : List ℕ) (x : Board) (v : Throw) (r : ℕ) → IsPosition x →
    IsBestPlay (slice_index means) x v r → (Legal x v (at_rank r)) × (rank (at_rank r) ≡ r)
best-legal means x v r at best =
    let z = best.reached.0 in
    let leads = best.reached.1 in
    let found : at_rank r ≡ z =
    ap at_rank (sym best.reached.2) ∙ at_rank-rank z (legal_position x v z at leads) in
    (subst (λ (y : Board). Legal x v y) (sym found) leads, ap rank found ∙ best.reached.2)

-- strategies have the means and the shares of the ranks below one
abbrev pub ReachedBelow : ℕ → List ℕ → List (List ℕ) → Type 0
ReachedBelow n means spreads =
    (r : ℕ) → r < n → IsReached (at_rank r) (slice_index means r) (shares_of spreads r)

-- an unfinished position, the records of lower rank, and the best plays
module _ (x : Board) (at : IsPosition x) (unfinished : ¬ IsFinished x) (low : pips x ≤ 58)
    (means : List ℕ)
    (spreads : List (List ℕ)) (reached : ReachedBelow (rank x) means spreads) (plays : List ℕ)
    (best : (i : ℕ) → i < 21 →
    IsBestPlay (slice_index means) x (roll_at i) (slice_index plays i)) where
  goes : (i : ℕ) → i < 21 → Legal x (roll_at i) (at_rank (slice_index plays i))
  goes i lt = (best-legal means x (roll_at i) (slice_index plays i) at (best i lt)).0

  -- the plays lead to lower ranks
  pub play-lower : (i : ℕ) → i < 21 → slice_index plays i < rank x
  play-lower i lt =
      let lower =
      legal_lower x (roll_at i) (best i lt).reached.0 at unfinished (best i lt).reached.1 in
      let is = (best i lt).reached.2 in
      omega arith

  -- where strategies go on
  next-reached : (v : Throw) →
      IsReached (at_rank (slice_index plays (roll_index v)))
      (slice_index means (slice_index plays (roll_index v)))
      (shares_of spreads (slice_index plays (roll_index v)))
  next-reached v =
      reached (slice_index plays (roll_index v)) (play-lower (roll_index v) (roll_index-range v))

  -- the mean can be pulled
  pub can-pull_mean : (mean : ℕ)
      × ((mean ≤ 22 * whole) × (36 * mean ≡ 36 * whole + sum_of_means means plays))
  can-pull_mean = mean-exact x at (omega arith) unfinished means spreads plays goes next-reached

  -- the shares can be pulled
  pub can-pull_shares : (k : ℕ) → k < 22 → sum_of_shares spreads plays k % 36 ≡ 0
  can-pull_shares =
      shares-exact x at (omega arith) unfinished means spreads plays goes next-reached

  -- no play has a share of as many rolls as a game from here can take
  pub play-beyond : (i k : ℕ) → i < 21 → most_rolls (pips x) ≤ k → k ≤ 22 →
      slice_index (shares_of spreads (slice_index plays i)) k ≡ 0
  play-beyond i k lt beyond few =
      subst (λ (j : ℕ). slice_index (shares_of spreads (slice_index plays j)) k ≡ 0)
      (roll_of_index i lt).1
      (none-beyond x at (omega arith) unfinished means spreads plays goes next-reached (roll_at i)
      k beyond few)

  -- and a strategy has them
  pub next-is_reached : (mean : ℕ) (shares : List ℕ) →
      36 * mean ≡ 36 * whole + sum_of_means means plays → slice_index shares 0 ≡ 0 →
      ((k : ℕ) → k < 22 → 36 * slice_index shares (suc k) ≡ sum_of_shares spreads plays k) →
      IsReached x mean shares
  next-is_reached =
      pulled-reached x at (omega arith) unfinished means spreads plays goes next-reached

-- the record of the finished position
pub made-at_end :
    (means : List ℕ) (spreads : List (List ℕ)) (x : Board) (mean : ℕ) (plays shares : List ℕ) →
    IsPosition x → IsFinished x → mean ≡ 0 → ((i : ℕ) → slice_index plays i ≡ 0) →
    slice_index shares 0 ≡ whole → ((k : ℕ) → slice_index shares (suc k) ≡ 0) →
    IsMade means spreads x mean plays shares
made-at_end means spreads x mean plays shares at none mean_is none_played start more = record {
  best =
      λ i lt.
      subst (λ (r : ℕ). IsBestPlay (slice_index means) x (roll_at i) r) (sym (none_played i))
      (play-at_end (slice_index means) x (roll_at i) at none);
  mean_at_end = λ _. mean_is;
  mean_before = λ unfinished. absurd (unfinished none);
  start_at_end = λ _. start;
  start_before = λ unfinished. absurd (unfinished none);
  share_at_end = λ _. more;
  share_before = λ unfinished. absurd (unfinished none);
}

-- the record of a position that isn't finished
pub made-before :
    (means : List ℕ) (spreads : List (List ℕ)) (x : Board) (mean : ℕ) (plays shares : List ℕ) →
    ¬ IsFinished x →
    ((i : ℕ) → i < 21 → IsBestPlay (slice_index means) x (roll_at i) (slice_index plays i)) →
    36 * mean ≡ 36 * whole + sum_of_means means plays → slice_index shares 0 ≡ 0 →
    ((k : ℕ) → k < 22 → 36 * slice_index shares (suc k) ≡ sum_of_shares spreads plays k) →
    IsMade means spreads x mean plays shares
made-before means spreads x mean plays shares unfinished best mean_is start moved = record {
  best = best;
  mean_at_end = λ none. absurd (unfinished none);
  mean_before = λ _. mean_is;
  start_at_end = λ none. absurd (unfinished none);
  start_before = λ _. start;
  share_at_end = λ none. absurd (unfinished none);
  share_before = λ _. moved;
}
