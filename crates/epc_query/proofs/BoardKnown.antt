-- What a right board file records of a position of at most its bound.
use Rattle.std.proofs.Common.{◌≡◌, ℕ, ◌*◌, ◌^◌, ◌<◌, ◌≤◌, List, length, subst, arith}
use Rattle.race_model.specs.Prelude.{Board, IsPosition, pips, rank, at_rank, count_to, most_rolls, bound_of, IsLeastIn}
use Rattle.race_model.specs.Prelude.{mean_in, follow_in, IsRightIn, endings, board_place, board_book, board_record}
use Rattle.race_model.specs.Prelude.{count_at, mean_parts, count_parts, IsRightBoard, IsWritten}
use Rattle.race_model.proofs.Books.Boards.{board_counts}
use Rattle.race_model.proofs.Ranks.RankOrder.{at_rank_position}
use Rattle.race_model.proofs.Ranks.PositionTotals.{at_rank_under}
use Rattle.epc_query.proofs.Sizes.{least_in-most, endings-most}

-- the file ends with its last record
pub known_length : (f : List ℕ) → IsRightBoard f → length f ≡ board_place (count_to (bound_of f))
known_length f right = right.file.whole

module _ (f : List ℕ) (right : IsRightBoard f) (x : Board) (position : IsPosition x)
    (within : pips x ≤ bound_of f) where
  -- what is recorded of the position is right
  pub known_right : IsRightIn (board_book f) x
  known_right = right.book x position within

  -- what is recorded of the position is written in the one way that is allowed
  pub known_written : IsWritten f x
  known_written = right.written x position within

  -- the recorded mean is the least
  pub known_least : IsLeastIn 33 x (mean_in (board_book f) x)
  known_least = known_right.least

  -- the recorded mean is within 33 rolls
  pub known_mean : mean_in (board_book f) x ≤ 33 * 36 ^ 33
  known_mean = least_in-most 33 x (mean_in (board_book f) x) known_least

  -- the recorded counts are those of the recorded plays
  pub known_counts : (k : ℕ) → k ≤ 33 →
      count_at f (rank x) k ≡ endings (follow_in (board_book f) 33 x) k
  known_counts = board_counts f right x position within

  -- the recorded counts are at most all sequences of so many throws
  pub known_count : (k : ℕ) → k ≤ 33 → count_at f (rank x) k ≤ 36 ^ k
  known_count k few =
      omega (arith, known_counts k few, endings-most (follow_in (board_book f) 33 x) k)

module _ (f : List ℕ) (right : IsRightBoard f) (r : ℕ) (under : r < count_to (bound_of f)) where
  -- the position of the rank is within the bound
  at : (rank (at_rank r) ≡ r) × (pips (at_rank r) ≤ bound_of f)
  at = at_rank_under (bound_of f) r under

  -- the recorded mean of a rank is within 33 rolls
  pub known_mean_at : (board_book f).means r ≤ 33 * 36 ^ 33
  known_mean_at =
      subst (λ n. (board_book f).means n ≤ 33 * 36 ^ 33) at.0
      (known_mean f right (at_rank r) (at_rank_position r) at.1)

  -- its lower part is less than one of the upper part
  pub known_lower : (mean_parts (board_record f r)).lower < 36 ^ 11
  known_lower =
      subst (λ n. (mean_parts (board_record f n)).lower < 36 ^ 11) at.0
      (known_written f right (at_rank r) (at_rank_position r) at.1).mean

  -- the recorded counts of a rank are at most all sequences of so many throws
  pub known_count_at : (k : ℕ) → k ≤ 33 → count_at f r k ≤ 36 ^ k
  known_count_at k few =
      subst (λ n. count_at f n k ≤ 36 ^ k) at.0
      (known_count f right (at_rank r) (at_rank_position r) at.1 k few)

  -- the lower part of such a count, where it has two, is less than one of the upper part
  pub known_lower_count : (k : ℕ) → k ≤ 33 → 11 < k → k ≤ most_rolls (pips (at_rank r)) →
      (count_parts (board_record f r) k).lower < 36 ^ 11
  known_lower_count k few many most =
      subst (λ n. (count_parts (board_record f n) k).lower < 36 ^ 11) at.0
      ((known_written f right (at_rank r) (at_rank_position r) at.1).counts k few many most)
