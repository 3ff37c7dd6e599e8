use Rattle.std.proofs.Common.{◌≡◌, ◌+◌, ◌-◌, ◌*◌, ◌≤◌, length, take, slice_index}
use Rattle.race_model.specs.Prelude.{first_of, most_rolls, version_by, record_place}
use Rattle.db_layout.specs.WholeFiles.{records_from}
use Rattle.least_plays.specs.Known.{Knows}
use Rattle.retrograde.specs.AllRecords.{AllRecords, mean_of_rank, bytes_of_rank}
use Rattle.retrograde.specs.KeptRecords.{AreKept}
use Rattle.retrograde.proofs.level.add_level.Given as goal

-- the records of the level so far, and their bytes
abbrev pub invariant-loop-rank : goal.invariant-loop-rank
invariant-loop-rank g l = record {
  from : first_of l.pips ≤ l.rank;
  means_len : length l.means ≡ length l.initial.means;
  places_len : length l.places ≡ length l.initial.places;
  shares_len : length l.shares ≡ length l.initial.shares;
  level_len : length l.level ≡ length l.initial.level;
  kept : AreKept l.rank l.means l.places l.shares;
  known : (full : AllRecords) → Knows (mean_of_rank full) l.least l.rank;
  next : slice_index l.places l.rank
      ≡ slice_index l.initial.places (first_of l.pips)
      + (l.rank - first_of l.pips) * (16 * (most_rolls l.pips + 1));
  start : record_place (version_by l.header.version) (first_of l.pips) + l.start
      ≡ record_place (version_by l.header.version) l.rank;
  written : (full : AllRecords) → take l.start l.level
      ≡ records_from (bytes_of_rank (version_by l.header.version) full) (first_of l.pips)
      (l.rank - first_of l.pips);
}
