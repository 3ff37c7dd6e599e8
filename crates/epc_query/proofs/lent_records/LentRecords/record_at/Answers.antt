-- The record of a rank stands within the bytes of the file.
use Rattle.std.proofs.Common.{◌≡◌, ◌≤◌, ◌<◌, ◌+◌, ℕ, refl, ap, ◌∙◌, arith}
use Rattle.race_model.specs.Prelude.{pips, at_rank, first_of, count_to, version_by, record_length, greatest_bound}
use Rattle.race_model.specs.Prelude.{record_place}
use Rattle.race_model.proofs.Ranks.RankOrder.{at_rank_position, rank_within}
use Rattle.race_model.proofs.Ranks.PositionTotals.{at_rank_under}
use Rattle.race_model.proofs.RightFiles.Places.{record_place-by}
use Rattle.db_layout.specs.declared.stated.Kind.TheVariants.{Database}
use Rattle.db_layout.proofs.RecordPlaces.{first_of-next, place_before, greatest-most}
use Rattle.epc_query.proofs.lent_records.LentRecords.record_at.Goals as goal

-- a rank that a file of a bound has, and the pip count of its position
module _ (bound r p : ℕ) (under : r < count_to bound) (pips_are : p ≡ pips (at_rank r)) where
  -- the rank of the position
  ranked : first_of (pips (at_rank r)) ≤ r
  ranked = omega (
    arith,
    (rank_within (at_rank r) (at_rank_position r)).0,
    (at_rank_under bound r under).0,
  )

  -- it is one of as many pips
  from : first_of p ≤ r
  from = omega (arith, ranked, ap first_of pips_are)

  -- the next one is, or is the first of more
  beyond : r ≤ first_of (p + 1)
  beyond = omega (
    arith,
    (rank_within (at_rank r) (at_rank_position r)).1,
    (at_rank_under bound r under).0,
    ap count_to pips_are,
    first_of-next p,
  )

  -- the position has at most as many pips as the file allows
  low : p ≤ bound
  low = omega (arith, pips_are, (at_rank_under bound r under).1)

  -- its record ends where the last one does, or before
  inside : (number : ℕ) →
      record_place (version_by number) r + record_length (version_by number) p
      ≤ record_place (version_by number) (count_to bound)
  inside number = omega (
    arith,
    ap (record_length (version_by number)) pips_are,
    record_place-by (version_by number) r,
    record_place-by (version_by number) (count_to bound),
    place_before (record_length (version_by number)) r (count_to bound) under,
  )

-- so at most 58
short : (number bound r p : ℕ) → r < count_to bound → p ≡ pips (at_rank r) →
    bound ≤ greatest_bound (version_by number) → p ≤ 58
short number bound r p under pips_are most =
    omega (arith, low bound r p under pips_are, most, greatest-most Database number)

pub offset_of-requires-clause-low : goal.offset_of-requires-clause-low
offset_of-requires-clause-low c =
    short c.args.self.now.version _ _ _ c.requires.rank c.requires.pips c.args.self.now.low

pub offset_of-requires-clause-from : goal.offset_of-requires-clause-from
offset_of-requires-clause-from c = from _ _ _ c.requires.rank c.requires.pips

pub offset_of-requires-clause-beyond : goal.offset_of-requires-clause-beyond
offset_of-requires-clause-beyond c = beyond _ _ _ c.requires.rank c.requires.pips

pub at-requires : goal.at-requires
at-requires c = record {
  low = short c.args.self.now.version _ _ _ c.requires.rank c.requires.pips c.args.self.now.low;
  inside = omega (
    arith,
    c.offset_of.ensures,
    inside _ _ _ c.requires.rank c.requires.pips c.args.self.now.version,
    c.args.self.now.sized,
  );
}

pub returns : goal.returns
returns c = c.at.ensures ∙ rw (c.offset_of.ensures, c.requires.pips) refl
