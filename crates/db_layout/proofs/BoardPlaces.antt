-- Where the records of a board file stand: each behind the one before it.
use Rattle.std.proofs.Common.{◌≡◌, ℕ, suc, ◌+◌, ◌*◌, ◌<◌, ◌≤◌, ap, arith, add-one}
use Rattle.race_model.specs.Prelude.{pips, at_rank, board_length, board_place}
use Rattle.race_model.proofs.RightFiles.Places.{board_place-by, place_by-most, place_by-next}
use Rattle.db_layout.specs.declared.stated.Kind.TheVariants.{Board}
use Rattle.db_layout.proofs.RecordPlaces.{length-most, place-most, place_before}

-- no record begins in the header
pub board_place-least : (r : ℕ) → 32 ≤ board_place r
board_place-least r = omega (arith, board_place-by r, place_by-most board_length r)

-- no record is longer than that of 90 pips
pub board_length-most : (p : ℕ) → p ≤ 90 → board_length p ≤ 594
board_length-most = length-most Board 3

-- so none begins later than such records would
pub board_place-most : (r : ℕ) → board_place r ≤ 32 + 594 * r
board_place-most = place-most Board 3

-- a record begins where the one before it ends
pub board_place-next : (r : ℕ) →
    board_place (r + 1) ≡ board_place r + board_length (pips (at_rank r))
board_place-next r =
    omega (
      arith,
      ap board_place (add-one r),
      board_place-by r,
      board_place-by (suc r),
      place_by-next board_length r,
    )

-- a record ends before any of higher rank begins
pub board_place-rises : (r n : ℕ) → r < n →
    board_place r + board_length (pips (at_rank r)) ≤ board_place n
board_place-rises r n under =
    omega (arith, board_place-by r, board_place-by n, place_before board_length r n under)
