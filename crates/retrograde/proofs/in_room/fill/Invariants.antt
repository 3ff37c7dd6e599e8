use Rattle.std.proofs.Common.{◌≡◌, ◌≤◌, length, take, drop, slice_index}
use Rattle.race_model.specs.Prelude.{first_of, version_by, record_place}
use Rattle.least_plays.specs.Known.{Knows}
use Rattle.retrograde.specs.AllRecords.{AllRecords, mean_of_rank}
use Rattle.retrograde.specs.BuiltBytes.{built_to}
use Rattle.retrograde.specs.KeptRecords.{AreKept}
use Rattle.retrograde.proofs.Existence.{all-records}
use Rattle.retrograde.proofs.in_room.fill.Given as goal

-- the header and the records of the levels so far, and what is kept of them beside them
abbrev pub invariant-loop-pips : goal.invariant-loop-pips
invariant-loop-pips g l = record {
  len : length l.room ≡ length l.fn.room;
  work_len : length l.work ≡ length l.fn.work;
  means_len : length l.means ≡ g.row.PLACES;
  places_len : length l.places ≡ g.row.PLACES;
  kept : AreKept (first_of l.pips) l.means l.places l.work;
  before : slice_index l.places (first_of l.pips)
      ≤ record_place (version_by l.fn.header.version) (first_of l.pips);
  known : (full : AllRecords) → Knows (mean_of_rank full) l.least (first_of l.pips);
  written : take (record_place (version_by l.fn.header.version) (first_of l.pips)) l.room
      ≡ built_to (version_by l.fn.header.version) all-records l.fn.header.bound
      (first_of l.pips);
  rest : drop (record_place (version_by l.fn.header.version) l.fn.header.count) l.room
      ≡ drop (record_place (version_by l.fn.header.version) l.fn.header.count) l.fn.room;
}
