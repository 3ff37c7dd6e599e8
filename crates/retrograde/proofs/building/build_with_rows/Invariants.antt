use Rattle.race_model.specs.Prelude.{first_of, version_by}
use Rattle.std.specs.Io.KnownBytes.{Appends}
use Rattle.least_plays.specs.Known.{Knows}
use Rattle.retrograde.specs.AllRecords.{AllRecords, mean_of_rank}
use Rattle.retrograde.specs.BuiltBytes.{built_to}
use Rattle.retrograde.specs.KeptRecords.{AreKept}
use Rattle.retrograde.proofs.Existence.{all-records}
use Rattle.retrograde.proofs.building.build_with_rows.Given as goal

-- the levels so far are kept and written
abbrev pub invariant-loop-pips : goal.invariant-loop-pips
invariant-loop-pips g l = record {
  kept : AreKept (first_of l.pips) l.records.means.items l.records.places.items
      l.records.shares.items;
  known : (full : AllRecords) → Knows (mean_of_rank full) l.least (first_of l.pips);
  written : Appends (g.W.Write.contents l.fn.writer) (g.W.Write.contents l.writer)
      (built_to (version_by l.header.version) all-records l.header.bound (first_of l.pips));
}
