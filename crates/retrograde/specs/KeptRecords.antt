-- What a build keeps of the records that it has made, by rank: all means, and all shares, in a room
-- with the places where those of each rank begin.
use Rattle.std.specs.Prelude.{◌≡◌, ℕ, ◌+◌, ◌-◌, ◌*◌, ◌<◌, ◌≤◌, List, length, slice_index}
use Rattle.race_model.specs.Prelude.{first_of, count_to, Version, most_rolls, record_place}
use Rattle.retrograde.specs.AllRecords.{AllRecords, mean_of_rank, plays_of_rank, shares_of_rank}
use Rattle.retrograde.specs.KeptShares.{ArePlaces, shares_kept}

-- the means and the shares of the first n ranks are those of their records
pub record AreKept (n : ℕ) (means places shares : List ℕ) : Type 0 where
  pub means_are : (full : AllRecords) (r : ℕ) → r < n →
      slice_index means r ≡ mean_of_rank full r
  pub shares_are : (full : AllRecords) (r : ℕ) → r < n →
      shares_kept shares places r ≡ shares_of_rank full r
  pub placed : ArePlaces places n (length shares)
  pub small : slice_index places n ≤ 368 * n

-- the bytes in which the shares of a pip count are kept
abbrev pub level_shares : ℕ → ℕ
level_shares p = (count_to p - first_of p) * (16 * (most_rolls p + 1))

-- there is room for the records of a pip count: for its means, its places and its shares behind
-- those of fewer pips, and for just its bytes in a file of a version
pub record HasRoom (version : Version) (p : ℕ) (means places shares level : List ℕ) : Type 0 where
  pub for_means : count_to p ≤ length means
  pub for_places : count_to p < length places
  pub for_shares : slice_index places (first_of p) + level_shares p ≤ length shares
  pub for_bytes : record_place version (first_of p) + length level
      ≡ record_place version (count_to p)

-- this is the record of a rank
pub record IsRecordOfRank (full : AllRecords) (r mean : ℕ) (plays shares : List ℕ) : Type 0 where
  pub mean_is : mean ≡ mean_of_rank full r
  pub plays_are : plays ≡ plays_of_rank full r
  pub shares_are : shares ≡ shares_of_rank full r
