-- What is known of the records of lower rank, where they meet their equations.
use Rattle.std.proofs.Common.{◌≡◌, ℕ, zero, suc, cond, eq-eqb, ne_eqb, ◌+◌, ◌*◌, ◌^◌, ◌<◌, ◌≤◌, List, length, w64, refl}
use Rattle.std.proofs.Common.{subst, sym, ap, ◌∙◌, ⊎_elim, arith, Option, None, Some, IsSome, IfSome}
use Rattle.std.specs.Option.{unwrap_or}
use Rattle.std.specs.Int.{w128, from_be_bytes}
use Rattle.std.proofs.lemmas.Bool.{false≢true, le-leb, lt-leb, cases_lt}
use Rattle.race_model.specs.Prelude.{Board, IsPosition, pips, rank, at_rank, bytes_at, most_rolls, board_book}
use Rattle.race_model.specs.Prelude.{board_length, board_place, board_record, count_place, mean_parts, count_parts}
use Rattle.race_model.specs.Prelude.{count_at, value_of_parts, IsLocalOnBoard}
use Rattle.race_model.proofs.Books.Boards.{counts_of_local}
use Rattle.race_model.proofs.Ranks.PositionTotals.{rank-at_rank}
use Rattle.race_model.proofs.Ranks.RankOrder.{at_rank_position, at_rank-rank, pips-range}
use Rattle.race_model.proofs.Strategies.Horizons.{ends_in_33, most_rolls-board}
use Rattle.race_model.proofs.RightFiles.CountParts.{count-short, told_some}
use Rattle.race_model.proofs.Books.Bounded.{MeetsTo, mean-at_most, count-at_most}
use Rattle.db_layout.proofs.ByteParts.{bytes_at-inner}
use Rattle.db_layout.proofs.BoardPlaces.{board_place-rises}
use Rattle.db_layout.specs.LowerRecords.{AreLocalTo, AreRecords, board_mean}

-- what holds of the positions of the ranks below one, and of that of the rank, holds of one more
pub accepted-more : (local : Board → Type 0) (r : ℕ)
    → ((z : Board) → IsPosition z → rank z < r → local z)
    → local (at_rank r) → (z : Board) → IsPosition z → rank z < r + 1 → local z
accepted-more local r accepted here z at low = ⊎_elim
    (λ less. accepted z at less)
    (λ more.
    let is : rank z ≡ r = omega arith in
    let same : at_rank r ≡ z = ap at_rank (sym is) ∙ at_rank-rank z at in
    subst local same here)
    (cases_lt (rank z) r)

-- what holds of something where there is one holds of what is taken in its place
pub of_some : {T : Type 0} (P : T → Type 0) (found : Option T) (other : T) → IsSome found →
    IfSome found P → P (unwrap_or found other)
of_some P (Some x) other some held = held
of_some P None other some held = absurd (false≢true some)

-- positions of lower rank that meet their equations
module _ (f : List ℕ) (n : ℕ) (few : n ≤ 54264) (local : AreLocalTo f n) where
  pub meets-below : (y : Board) → IsPosition y → rank y < n → MeetsTo (board_book f) (count_at f) y
  meets-below y at under z is le =
      let here = local z is (omega arith) in
      record {
        played = here.equations.means.played;
        mean_is = here.equations.means.mean_is;
        counts_are = counts_of_local f z here;
      }

  -- the position of a rank
  module _ (r : ℕ) (lt : r < n) where
    pub ranked : rank (at_rank r) ≡ r
    ranked = rank-at_rank r (omega arith)

    pub at-rank : IsLocalOnBoard f (at_rank r)
    at-rank = local (at_rank r) (at_rank_position r) (omega (arith, ranked))

    meets-rank : MeetsTo (board_book f) (count_at f) (at_rank r)
    meets-rank = meets-below (at_rank r) (at_rank_position r) (omega (arith, ranked))

    -- its mean is written, and at most 33 rolls
    pub mean-written : (mean_parts (board_record f r)).lower < 36 ^ 11
    mean-written =
        subst (λ k. (mean_parts (board_record f k)).lower < 36 ^ 11) ranked at-rank.written.mean

    pub mean-most : board_mean f r ≤ 33 * 36 ^ 33
    mean-most =
        subst (λ k. board_mean f k ≤ 33 * 36 ^ 33) ranked
        (mean-at_most (board_book f) (count_at f) 33 (at_rank r)
        (ends_in_33 (at_rank r) (at_rank_position r)) (at_rank_position r) meets-rank)

    -- its counts are written, and at most all sequences
    pub count-most : (k : ℕ) → k ≤ 33 → count_at f r k ≤ 36 ^ k
    count-most k le =
        subst (λ q. count_at f q k ≤ 36 ^ k) ranked
        (count-at_most (board_book f) (count_at f) k (at_rank r) le (at_rank_position r)
        meets-rank)

    pub count-written : (k : ℕ) → 11 < k → k ≤ most_rolls (pips (at_rank r)) →
        (count_parts (board_record f r) k).lower < 36 ^ 11
    count-written k many le =
        subst (λ q. (count_parts (board_record f q) k).lower < 36 ^ 11) ranked
        (at-rank.written.counts k
        (omega (
          arith,
          le,
          most_rolls-board (pips (at_rank r)) (pips-range (at_rank r) (at_rank_position r)),
        ))
        many le)

-- the record of a rank lies within the bytes
pub record-inside : (bytes : List ℕ) (n : ℕ) (offsets leading : List ℕ) →
    AreRecords bytes n offsets leading → (r : ℕ) → r < n →
    board_place r + board_length (pips (at_rank r)) ≤ length bytes
record-inside bytes n offsets leading are r lt =
    omega (arith, are.long, board_place-rises r n lt)

-- the mean stands at the front of the record of a rank
module _ (bytes : List ℕ) (offset r : ℕ) (begins : offset ≡ board_place r) where
  front : (b m : ℕ) → b + m ≤ 66 →
      bytes_at bytes (offset + b) m ≡ bytes_at (board_record bytes r) b m
  front b m within =
      ap (λ n. bytes_at bytes (n + b) m) begins
      ∙ sym (bytes_at-inner bytes (board_place r) (board_length (pips (at_rank r))) b m
      (omega (arith, within)))

  pub mean-upper : from_be_bytes w128 (bytes_at bytes offset 16)
      ≡ (mean_parts (board_record bytes r)).upper
  unfolding mean_parts
  mean-upper =
      ap (λ n. from_be_bytes w128 (bytes_at bytes n 16)) (none offset)
      ∙ ap (from_be_bytes w128) (front 0 16 (omega arith))
    where
      none : (n : ℕ) → n ≡ n + 0
      none n = omega arith

  pub mean-lower : from_be_bytes w64 (bytes_at bytes (offset + 16) 8)
      ≡ (mean_parts (board_record bytes r)).lower
  unfolding mean_parts
  mean-lower = ap (from_be_bytes w64) (front 16 8 (omega arith))

-- a position that needs no roll has no pip
pub most_rolls-none : (p : ℕ) → most_rolls p ≡ 0 → p ≡ 0
most_rolls-none zero none = refl
most_rolls-none (suc p) none = absurd (omega (arith, none))

-- what is told of k throws
module _ (f : List ℕ) (r : ℕ) where
  pub told-at_end : pips (at_rank r) ≡ 0 → count_at f r 0 ≡ 1
  unfolding count_at
  told-at_end end = ap (λ b. cond {A = ℕ} b 1 0) (eq-eqb (pips (at_rank r)) 0 end)

  pub told-at_once : ¬ (pips (at_rank r) ≡ 0) → count_at f r 0 ≡ 0
  unfolding count_at
  told-at_once some = ap (λ b. cond {A = ℕ} b 1 0) (ne_eqb (pips (at_rank r)) 0 some)

  pub told-beyond : (k : ℕ) → most_rolls (pips (at_rank r)) < k → count_at f r k ≡ 0
  unfolding count_at
  told-beyond zero beyond = absurd (omega (arith, beyond))
  told-beyond (suc k) beyond =
      ap (λ b. cond b (value_of_parts (count_parts (board_record f r) (suc k))) 0)
      (lt-leb (suc k) (most_rolls (pips (at_rank r))) beyond)

  pub told-within : (k : ℕ) → 0 < k → k ≤ most_rolls (pips (at_rank r)) →
      count_at f r k ≡ value_of_parts (count_parts (board_record f r) k)
  unfolding count_at
  told-within k = told_some (pips (at_rank r)) k (board_record f r)

  -- what is told of k throws, to 11 throws
  pub told-short : (k : ℕ) → 0 < k → k ≤ most_rolls (pips (at_rank r)) → k ≤ 11 →
      count_at f r k ≡ from_be_bytes w64 (bytes_at (board_record f r) (count_place k) 8)
  told-short k some within few =
      told-within k some within ∙ ap value_of_parts (count-short (board_record f r) k few)
      ∙ alone (from_be_bytes w64 (bytes_at (board_record f r) (count_place k) 8))
    where
      alone : (n : ℕ) → 0 * 36 ^ 11 + n ≡ n
      alone n = omega arith

-- to 11 throws a count has no upper part
pub count-one : (bytes : List ℕ) (k : ℕ) → k ≤ 11 → (count_parts bytes k).upper ≡ 0
unfolding count_parts
count-one bytes k few = rw (le-leb k 11 few) refl
