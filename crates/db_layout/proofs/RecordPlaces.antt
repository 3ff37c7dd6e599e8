-- Where the records of a file stand: each behind the one before it, and those of one pip count, all
-- of one length, behind those of fewer pips.
use Rattle.std.proofs.Common.{◌≡◌, ℕ, suc, ◌+◌, ◌-◌, ◌*◌, ◌<◌, ◌≤◌, ap, sym, ◌∙◌, arith, add-one}
use Rattle.race_model.specs.Prelude.{pips, rank, at_rank, first_of, count_to, place_by, Version, full, compact}
use Rattle.race_model.specs.Prelude.{version_by, record_length}
use Rattle.race_model.proofs.Ranks.RankOrder.{at_rank_position, pips-range, first_of-suc, first_of-rises}
use Rattle.race_model.proofs.Ranks.PositionTotals.{rank-at_rank, count_to-most}
use Rattle.race_model.proofs.Strategies.Horizons.{most_rolls-board}
use Rattle.race_model.proofs.RightFiles.Places.{place_by-level, place_by-rises, place_by-at_most}
use Rattle.race_model.proofs.RightFiles.Places.{record_place-by, board_place-by}
use Rattle.race_model.proofs.RightFiles.Right.{greatest_bound-most}
use Rattle.ranking.proofs.Counting.{pips-are}
use Rattle.db_layout.specs.Layouts.{layout_in, length_in}
use Rattle.db_layout.specs.declared.stated.Kind.{Kind}
use Rattle.db_layout.specs.declared.stated.Kind.TheVariants.{Database, Board}

-- one position more than those of fewer pips begins the next pip count
pub first_of-next : (p : ℕ) → first_of (p + 1) ≡ count_to p
first_of-next p = ap first_of (add-one p) ∙ first_of-suc p

-- the position of a rank between the counts has that many pips
pub pips_between : (p k : ℕ) → first_of p ≤ k → k < first_of (p + 1) → pips (at_rank k) ≡ p
pips_between p k from under =
    pips-are (at_rank k) p (at_rank_position k) (omega (arith, from, is_rank))
    (omega (arith, under, is_rank))
  where
    is_rank : rank (at_rank k) ≡ k
    is_rank = rank-at_rank k (omega (arith, under, first_of-next p, count_to-most p))

-- in a file whose records of p pips have size p bytes
module _ (size : ℕ → ℕ) where
  -- where the record of one of these positions stands
  pub place_between : (p n : ℕ) → first_of p + n ≤ first_of (p + 1) →
      place_by size (first_of p + n) ≡ place_by size (first_of p) + n * size p
  place_between p n room =
      place_by-level size (size p) (first_of p) n
      (λ k from under. ap size (pips_between p k from (omega (arith, under, room))))

  -- where the first record of the next pip count stands
  pub place_beyond : (p : ℕ) →
      place_by size (first_of (p + 1))
      ≡ place_by size (first_of p) + (first_of (p + 1) - first_of p) * size p
  place_beyond p =
      ap (place_by size) (parts (first_of p) (first_of (p + 1)) rising)
      ∙ place_between p (first_of (p + 1) - first_of p) (omega (arith, rising))
    where
      rising : first_of p ≤ first_of (p + 1)
      rising = first_of-rises p (p + 1) (omega arith)

      parts : (a b : ℕ) → a ≤ b → b ≡ a + (b - a)
      parts a b h = omega (arith, h)

  -- a record among those of its pip count
  pub place_of_rank : (p rank offset earlier length : ℕ) → first_of p ≤ rank →
      rank ≤ first_of (p + 1) → offset ≡ place_by size (first_of p) →
      earlier ≡ rank - first_of p → length ≡ size p →
      offset + earlier * length ≡ place_by size rank
  place_of_rank p rank offset earlier length from under at_first before each =
      rw (at_first, before, each)
      (sym (place_between p (rank - first_of p) (omega (arith, from, under)))
      ∙ ap (place_by size) (parts (first_of p) rank from))
    where
      parts : (a b : ℕ) → a ≤ b → a + (b - a) ≡ b
      parts a b h = omega (arith, h)

  -- a record ends before any of higher rank begins
  pub place_before : (r n : ℕ) → r < n →
      place_by size r + size (pips (at_rank r)) ≤ place_by size n
  place_before r n under =
      omega (arith, place_by-rises size r (n - suc r), ap (place_by size) (parts n under))
    where
      parts : (n : ℕ) → r < n → suc r + (n - suc r) ≡ n
      parts n h = omega (arith, h)

-- a record of a kind of file stands behind those of lower ranks
pub place-in : (kind : Kind) (version r : ℕ) →
    (layout_in kind version).place r ≡ place_by (length_in kind version) r
place-in Database version r = record_place-by (version_by version) r
place-in Board version r = board_place-by r

-- a record of a kind of file has at most 594 bytes
pub length-most : (kind : Kind) (version p : ℕ) → p ≤ 90 → length_in kind version p ≤ 594
length-most Database version p low = by_version (version_by version) where
  by_version : (v : Version) → record_length v p ≤ 594
  by_version full = omega arith
  by_version compact = omega (arith, most_rolls-board p low)
length-most Board version p low = omega (arith, most_rolls-board p low)

-- no record begins later than records of 594 bytes would
pub place-most : (kind : Kind) (version r : ℕ) → (layout_in kind version).place r ≤ 32 + 594 * r
place-most kind version r =
    rw (place-in kind version r)
    (place_by-at_most (length_in kind version) 594 r
    (λ k below.
    length-most kind version (pips (at_rank k)) (pips-range (at_rank k) (at_rank_position k))))

-- no file of a kind has a greater bound than one of version 2
pub greatest-most : (kind : Kind) (version : ℕ) →
    (layout_in kind version).greatest ≤ (layout_in kind 2).greatest
greatest-most Database version = greatest_bound-most (version_by version)
greatest-most Board version = omega arith
