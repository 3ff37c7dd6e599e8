-- The record of the next rank, made by those of lower ranks, meets the equations of its position.
use Rattle.std.proofs.Common.{◌≡◌, ⊎_elim, ◌⊎◌, ℕ, zero, suc, ◌+◌, ◌*◌, ◌^◌, ◌<◌, ◌≤◌, List, ap, sym, subst, ◌∙◌, refl}
use Rattle.std.proofs.Common.{arith, cond, eq-eqb, ne_eqb, le_of_lt, take, slice_index}
use Rattle.std.proofs.lemmas.Bool.{le-leb, lt-leb}
use Rattle.std.proofs.lemmas.List.{take-take}
use Rattle.race_model.specs.Prelude.{Board, IsPosition, IsFinished, pips, Throw, IsRoll, roll_at, roll_index, weighted}
use Rattle.race_model.specs.Prelude.{Legal, rank, at_rank, most_rolls, EndsIn, IsBestPlay, play_in, IsPlayedIn}
use Rattle.race_model.specs.Prelude.{HasMeanIn, HasCountIn, Parts, board_book, board_length, board_record}
use Rattle.race_model.specs.Prelude.{value_of_parts, mean_parts, board_play_of, count_parts, told_count, count_at}
use Rattle.race_model.specs.Prelude.{IsWritten, IsLocalOnBoard}
use Rattle.race_model.proofs.Books.Boards.{local_of_counts}
use Rattle.race_model.proofs.Positions.Points.{no_pips}
use Rattle.race_model.proofs.RightFiles.ToldShares.{some_pips}
use Rattle.race_model.proofs.Dice.Throws.{index_of_roll}
use Rattle.race_model.proofs.Dice.RollSums.{roll_index-range}
use Rattle.race_model.proofs.Plays.Results.{legal_position}
use Rattle.race_model.proofs.Ranks.RankOrder.{at_rank-rank, rank_apart}
use Rattle.race_model.proofs.Ranks.PositionTotals.{rank-range}
use Rattle.race_model.proofs.Ranks.BestPlays.{legal_lower, play-agree_reached}
use Rattle.race_model.proofs.Strategies.Horizons.{ends_in_most}
use Rattle.race_model.proofs.Books.Bounded.{count-beyond, weighted-none}
use Rattle.db_layout.proofs.SameRecords.{mean_of-agree, count_at-agree, local-agree, best_play-agree}
use Rattle.db_layout.proofs.SameFronts.{mean-agree, play-agree, count-agree}
use Rattle.db_layout.specs.LowerRecords.{board_mean}
use Rattle.db_layout.proofs.KnownRecords.{meets-below}
use Rattle.db_layout.proofs.Weighted.{weighted-by_index}
use Rattle.retrograde.specs.NextBoardRecord.{AreBestPlays, IsRecordBy}
use Rattle.retrograde.specs.BuiltBoards.{PlaysBest, IsBuiltTo}
use Rattle.retrograde.proofs.BoardResults.{are-results, are-below}

-- the records of the built file, in bytes that hold the same records
pub built-agree : (f g : List ℕ) (n : ℕ) →
    ((r : ℕ) → r < n → board_record f r ≡ board_record g r) → IsBuiltTo f n → IsBuiltTo g n
built-agree f g n same built = record {
  local = λ z there under. local-agree f g n same z there under (built.local z there under);
  plays = λ z there under v is.
      best_play-agree f g n same z there under v (built.plays z there under v is);
}

-- the record of a position is the first of the bytes that say what it has to
module _ (f : List ℕ) (x : Board) (plays bytes : List ℕ) (says : IsRecordBy f x plays bytes) where
  abbrev front : List ℕ
  front = take (board_length (pips x)) bytes

  same : front ≡ take (board_length (pips x)) front
  same = sym (take-take (board_length (pips x)) (board_length (pips x)) bytes (omega arith))

  mean : mean_parts bytes ≡ mean_parts front
  mean = mean-agree bytes front (board_length (pips x)) same (omega arith)

  count : (k : ℕ) → 1 ≤ k → k ≤ most_rolls (pips x) → count_parts bytes k ≡ count_parts front k
  count k some le =
      count-agree bytes front (board_length (pips x)) same k some (omega (arith, le))

  pub record-front : IsRecordBy f x plays front
  record-front = record {
    written = subst (λ (parts : Parts). parts.lower < 36 ^ 11) mean says.written;
    at_end = λ none. sym (ap value_of_parts mean) ∙ says.at_end none;
    before = λ unfinished.
        sym (ap (λ parts. 36 * value_of_parts parts) mean) ∙ says.before unfinished;
    play_is = λ i inside.
        sym (play-agree bytes front (board_length (pips x)) same i (omega (arith, inside)))
        ∙ says.play_is i inside;
    counts = record {
      written = λ k many le.
          subst (λ (parts : Parts). parts.lower < 36 ^ 11) (count k (omega (arith, many)) le)
          (says.counts.written k many le);
      value = λ k under.
          sym (ap value_of_parts (count (suc k) (omega arith) (omega (arith, under))))
          ∙ says.counts.value k under;
    };
  }

-- bytes that hold the records of the ranks below that of a position, and bytes that hold them too,
-- and then the record of the position
module _ (f g : List ℕ) (x : Board) (plays : List ℕ) (at : IsPosition x)
    (same : (r : ℕ) → r < rank x → board_record f r ≡ board_record g r)
    (built : IsBuiltTo f (rank x)) (best : AreBestPlays (board_mean f) x plays)
    (says : IsRecordBy f x plays (board_record g (rank x))) where
  -- the recorded play of a throw
  play_is : (v : Throw) → play_in (board_book g) x v ≡ slice_index plays (roll_index v)
  play_is v = says.play_is (roll_index v) (roll_index-range v)

  -- the recorded play of a throw is the best one, by the means of either
  pub plays-best : PlaysBest g x
  plays-best v is =
      subst (λ r. IsBestPlay (board_mean g) x v r) (sym (play_is v))
      (play-agree_reached (board_mean f) (board_mean g) x v (slice_index plays (roll_index v))
      (λ unfinished z legal.
      mean_of-agree f g (rank x) same (rank z) (legal_lower x v z at unfinished legal))
      (subst (λ w. IsBestPlay (board_mean f) x w (slice_index plays (roll_index v)))
      (index_of_roll v is).1 (best (roll_index v) (roll_index-range v))))

  played : (v : Throw) → IsRoll v → IsPlayedIn (board_book g) x v
  played v is =
      let z = (plays-best v is).reached in
      let there : at_rank (play_in (board_book g) x v) ≡ z.0 =
      ap at_rank (sym z.2) ∙ at_rank-rank z.0 (legal_position x v z.0 at z.1) in
      record {
        ranked = ap rank there ∙ z.2;
        legal = subst (λ y. Legal x v y) (sym there) z.1;
      }

  written : IsWritten g x
  written = record {
    mean = says.written;
    counts = λ k le many few. says.counts.written k many few;
  }

  -- where the position isn't finished, the plays lead to lower ranks
  below : ¬ IsFinished x → (i : ℕ) → i < 21 → slice_index plays i < rank x
  below unfinished = are-below (board_mean f) x plays best (rank x) at unfinished refl

  mean_is : HasMeanIn (board_book g) x
  mean_is = record {
    at_end = says.at_end;
    before = λ unfinished.
        says.before unfinished
        ∙ ap (λ n. 36 * 36 ^ 33 + n)
        (weighted-by_index (λ i. board_mean f (slice_index plays i))
        (λ i. board_mean g (board_play_of (board_record g (rank x)) i))
        (λ i inside.
        mean_of-agree f g (rank x) same (slice_index plays i) (below unfinished i inside)
        ∙ ap (board_mean g) (sym (says.play_is i inside))));
  }

  -- a count that is told for the position
  told : (k : ℕ) → count_at g (rank x) k ≡ told_count (pips x) (board_record g (rank x)) k
  unfolding count_at
  told k =
      ap (λ p. told_count p (board_record g (rank x)) k) (ap pips (at_rank-rank x at))

  -- the counts of what is played to, in either
  counts_after : ¬ IsFinished x → (k : ℕ) →
      weighted (λ v. count_at f (slice_index plays (roll_index v)) k)
      ≡ weighted (λ v. count_at g (play_in (board_book g) x v) k)
  counts_after unfinished k =
      weighted-by_index (λ i. count_at f (slice_index plays i) k)
      (λ i. count_at g (board_play_of (board_record g (rank x)) i) k)
      (λ i inside.
      count_at-agree f g (rank x) same (slice_index plays i) k (below unfinished i inside)
      ∙ ap (λ r. count_at g r k) (sym (says.play_is i inside)))

  -- there are no counts of what is played to from as many throws on as the game can take
  none_after : (m : ℕ) → EndsIn m x → ¬ IsFinished x → (k : ℕ) → k ≤ 33 → m ≤ k →
      weighted (λ v. count_at f (slice_index plays (roll_index v)) k) ≡ 0
  none_after zero ends unfinished k few le = absurd (unfinished ends)
  none_after (suc m) ends unfinished k few le =
      weighted-by_index (λ i. count_at f (slice_index plays i) k) (λ i. 0) none
      ∙ weighted-none (λ v. 0) (λ v. refl)
    where
      none : (i : ℕ) → i < 21 → count_at f (slice_index plays i) k ≡ 0
      none i inside =
          let z = are-results (board_mean f) x plays best i inside in
          let lower = legal_lower x (roll_at i) z.0 at unfinished z.1 in
          let there = legal_position x (roll_at i) z.0 at z.1 in
          ap (λ r. count_at f r k) (sym z.2)
          ∙ count-beyond (board_book f) (count_at f) m z.0 (ends unfinished (roll_at i) z.0 z.1)
          there
          (meets-below f (rank x) (le_of_lt (rank-range x at)) built.local z.0 there lower)
          k (omega arith) (omega arith)

  counts : (k : ℕ) → k ≤ 33 → HasCountIn (board_book g) (count_at g) x k
  counts zero le = (
    λ none. told 0 ∙ ap (λ b. cond b 1 0) (eq-eqb (pips x) 0 (no_pips x none)),
    λ unfinished. told 0 ∙ ap (λ b. cond b 1 0) (ne_eqb (pips x) 0 (some_pips x unfinished)),
  )
  counts (suc k) le = (
    λ none.
        told (suc k)
        ∙ ap (λ p. told_count p (board_record g (rank x)) (suc k)) (no_pips x none)
        ∙ ap (λ b. cond b (value_of_parts (count_parts (board_record g (rank x)) (suc k))) 0)
        (lt-leb (suc k) 0 (omega arith)),
    λ unfinished. told (suc k) ∙ (⊎_elim
        (λ inside.
        ap (λ b. cond b (value_of_parts (count_parts (board_record g (rank x)) (suc k))) 0)
        (le-leb (suc k) (most_rolls (pips x)) inside)
        ∙ says.counts.value k inside
        ∙ counts_after unfinished k)
        (λ beyond.
        ap (λ b. cond b (value_of_parts (count_parts (board_record g (rank x)) (suc k))) 0)
        (lt-leb (suc k) (most_rolls (pips x)) beyond)
        ∙ sym (none_after (most_rolls (pips x)) (ends_in_most x at) unfinished k (omega arith)
        (omega arith))
        ∙ counts_after unfinished k)
        (split (suc k) (most_rolls (pips x)))),
  )
    where
      split : (a b : ℕ) → (a ≤ b) ⊎ (b < a)
      split a b = grind arith

  -- so its equations hold
  pub next-local : IsLocalOnBoard g x
  next-local =
      local_of_counts g x written
      (record { played = played; best = λ v is. (plays-best v is).least; mean_is = mean_is }) counts

  -- the records of one rank more are those of the built file
  pub built-next : IsBuiltTo g (rank x + 1)
  built-next = record {
    local = λ z there under. ⊎_elim
        (λ earlier. local-agree f g (rank x) same z there earlier (built.local z there earlier))
        (λ here. subst (λ y. IsLocalOnBoard g y) (rank_apart x z at there here) next-local)
        (split (rank z) under);
    plays = λ z there under. ⊎_elim
        (λ earlier v is.
        best_play-agree f g (rank x) same z there earlier v (built.plays z there earlier v is))
        (λ here. subst (λ y. PlaysBest g y) (rank_apart x z at there here) plays-best)
        (split (rank z) under);
  }
    where
      split : (r : ℕ) → r < rank x + 1 → (r < rank x) ⊎ (rank x ≡ r)
      split r under = grind arith
