-- What the checker keeps of the records of lower rank.
use Rattle.std.specs.Prelude.{◌≡◌, ℕ, ◌+◌, ◌<◌, ◌≤◌, List, Option}
use Rattle.race_model.specs.Prelude.{mean_at}
use Rattle.least_plays.specs.Known.{Knows}
use Rattle.db_reader.specs.Telling.{WhereTold}
use Rattle.certificate.specs.KeptMeans.{kept_mean}
use Rattle.certificate.specs.declared.kept.LowerRecords.{LowerRecords}

-- the means that are kept of the ranks below the next one are those of the file, and the best
-- plays of the next position can be found by them
pub record IsLower {room rows : ℕ} (told : Option (List ℕ)) (lower : LowerRecords room rows)
    (next : ℕ) : Type 0 where
  pub known : Knows (kept_mean room lower.means) lower.plays next
  pub means_are : WhereTold told (λ file.
      (r : ℕ) → r < next → next ≤ r + room → kept_mean room lower.means r ≡ mean_at file r)
