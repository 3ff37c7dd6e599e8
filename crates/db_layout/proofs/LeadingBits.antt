-- The leading bits of means: lower ones are those of a lesser mean, and they are the same in bytes
-- that begin alike.
use Rattle.std.proofs.Common.{◌≡◌, ℕ, ◌-◌, ◌/◌, ◌^◌, ◌<◌, ◌≤◌, min, List, take}
use Rattle.std.proofs.Common.{refl, ap, arith}
use Rattle.std.specs.Int.{w128, from_be_bytes}
use Rattle.race_model.specs.Prelude.{Parts, value_of_parts, mean_parts, board_place, board_record}
use Rattle.db_layout.specs.LowerRecords.{AreRecords, board_mean, leading_at}
use Rattle.db_layout.proofs.BoardPlaces.{board_place-rises}
use Rattle.db_layout.proofs.ByteParts.{bytes_at-agree}
use Rattle.db_layout.proofs.KnownRecords.{mean-upper, mean-written}

-- a lesser upper part
upper-less : (a b : ℕ) → min (a / 2 ^ 87) (2 ^ 32 - 1) < min (b / 2 ^ 87) (2 ^ 32 - 1) → a < b
upper-less a b less = omega (arith, less)

-- of two means that are written the one with lower leading bits is less
pub leads-less : (a b : Parts) → a.lower < 36 ^ 11 →
    min (a.upper / 2 ^ 87) (2 ^ 32 - 1) < min (b.upper / 2 ^ 87) (2 ^ 32 - 1) →
    value_of_parts a < value_of_parts b
leads-less a b written less = omega (arith, written, upper-less a.upper b.upper less)

-- those of the ranks below one, in lists that begin alike up to its place
pub leads-agree : (f g : List ℕ) (n c : ℕ) → take n f ≡ take n g → board_place c ≤ n →
    (r : ℕ) → r < c → leading_at f (board_place r) ≡ leading_at g (board_place r)
leads-agree f g n c same within r under =
    ap (λ (bs : List ℕ). min (from_be_bytes w128 bs / 2 ^ 87) (2 ^ 32 - 1))
    (bytes_at-agree f g n (board_place r) 16 same
    (omega (arith, within, board_place-rises r c under)))

-- so they tell which of two ranks has the lesser mean
pub leads-tell : (bytes : List ℕ) (n : ℕ) (offsets leading : List ℕ) →
    AreRecords bytes n offsets leading → (one other : ℕ) → one < n →
    leading_at bytes (board_place one) < leading_at bytes (board_place other) →
    board_mean bytes one < board_mean bytes other
leads-tell bytes n offsets leading are one other in_one less =
    leads-less (mean_parts (board_record bytes one)) (mean_parts (board_record bytes other))
    (mean-written bytes n are.few are.local one in_one)
    (same (is one) (is other) less)
  where
    same : {a b c d : ℕ} → a ≡ c → b ≡ d → a < b → c < d
    same first second lt = omega (arith, first, second, lt)

    is : (r : ℕ) → leading_at bytes (board_place r)
        ≡ min ((mean_parts (board_record bytes r)).upper / 2 ^ 87) (2 ^ 32 - 1)
    is r = ap (λ n. min (n / 2 ^ 87) (2 ^ 32 - 1)) (mean-upper bytes (board_place r) r refl)
