-- The sums of the records that the 21 rolls lead to.
use Rattle.std.specs.Prelude.{◌≡◌, ℕ, ◌*◌, ◌<◌, ◌≤◌, List, map, slice_index, sum}
use Rattle.std.specs.List.{range_with_len}
use Rattle.race_model.specs.Prelude.{roll_index, weighted, mean_of, mean_at, spread_at, whole}
use Rattle.db_layout.specs.StoredShares.{share_by}
use Rattle.db_layout.specs.declared.stored_shares.StoredShares.{StoredShares}
use Rattle.fixed_fraction.specs.Totals.{Totals}
use Rattle.certificate.specs.RecordNumbers.{shares_of}

-- the shares of 0 to 22 rolls that a record tells
unfoldable pub told_by : StoredShares → List ℕ
told_by stored = map (share_by stored) (range_with_len 0 23)

-- the mean in the bytes of a record is at most 22 rolls, and its shares add up to the whole, as
-- those of an accepted record do
pub record IsAccepted (bytes : List ℕ) : Type 0 where
  pub mean : mean_of bytes ≤ 22 * whole
  pub shares : sum (shares_of bytes) ≡ whole

-- the sums of the records of 21 ranks, by the index of the roll that leads to each
pub record AreTotalsOf (f plays : List ℕ) (sums : Totals) : Type 0 where
  pub means : sums.mean ≡ weighted (λ v. mean_at f (slice_index plays (roll_index v)))
  pub each : (k : ℕ) → k < 23 → slice_index sums.shares k
      ≡ weighted (λ v. spread_at f (slice_index plays (roll_index v)) k)
