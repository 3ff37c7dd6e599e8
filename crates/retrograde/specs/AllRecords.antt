-- The records of all positions of at most 58 pips, by rank. There is one list of them, since each
-- record follows from those of lower rank: whatever the builder makes stands in it, for files of
-- either version.
use Rattle.std.specs.Prelude.{ℕ, List, [], slice_index, slice_index_or}
use Rattle.race_model.specs.Prelude.{pips, at_rank, count_to, Version}
use Rattle.db_layout.specs.Records.{record_of}
use Rattle.retrograde.specs.BuiltRecords.{HasRecords, shares_of}

-- all records
abbrev pub AllRecords : Type 0
AllRecords = HasRecords (count_to 58)

-- the mean of a rank
abbrev pub mean_of_rank : AllRecords → ℕ → ℕ
mean_of_rank full r = slice_index full.means r

-- the plays of a rank with the 21 rolls
abbrev pub plays_of_rank : AllRecords → ℕ → List ℕ
plays_of_rank full r = slice_index_or full.plays r []

-- the shares of a rank, of 0 to 22 rolls
abbrev pub shares_of_rank : AllRecords → ℕ → List ℕ
shares_of_rank full r = shares_of full.spreads r

-- the bytes of its record in a file of a version
abbrev pub bytes_of_rank : Version → AllRecords → ℕ → List ℕ
bytes_of_rank version full r =
    record_of version (pips (at_rank r)) (mean_of_rank full r) (plays_of_rank full r)
    (shares_of_rank full r)
