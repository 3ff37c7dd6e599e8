use Rattle.std.proofs.Common.{ap, sym, ◌∙◌, arith}
use Rattle.race_model.specs.Prelude.{count_to}
use Rattle.race_model.proofs.Ranks.PositionTotals.{count_to-most}
use Rattle.race_model.proofs.FirstFaults.Questions.{within_bound}
use Rattle.db_layout.specs.Layouts.{length_in}
use Rattle.db_layout.proofs.RecordPlaces.{pips_between, place-in, place_before, greatest-most}
use Rattle.db_layout.proofs.stated.Kind.find.Goals as goal

pub pips_of-pips-requires : goal.pips_of-pips-requires
pips_of-pips-requires c = omega (arith, c.requires.rank, count_to-most c.args.bound)

pub returns-clause-pips : goal.returns-clause-pips
returns-clause-pips c =
    sym (pips_between c.pips_of-pips.result c.args.rank c.pips_of-pips.ensures.from
    c.pips_of-pips.ensures.to)

pub returns-clause-range : goal.returns-clause-range
returns-clause-range c =
    omega (
      arith,
      returns-clause-pips c,
      (within_bound c.args.bound c.args.rank c.requires.rank).1,
    )

pub offset_of-requires-clause-low : goal.offset_of-requires-clause-low
offset_of-requires-clause-low c =
    omega (
      arith,
      pips_between c.pips_of-pips.result c.args.rank c.pips_of-pips.ensures.from
          c.pips_of-pips.ensures.to,
      (within_bound c.args.bound c.args.rank c.requires.rank).1,
      c.requires.bound,
      greatest-most c.args.self c.args.version,
    )

pub returns-clause-length : goal.returns-clause-length
returns-clause-length c =
    c.length_of.ensures ∙ ap (length_in c.args.self c.args.version) (returns-clause-pips c)

pub returns-clause-inside : goal.returns-clause-inside
returns-clause-inside c =
    let size = length_in c.args.self c.args.version in
    omega (
      arith,
      c.offset_of.ensures,
      returns-clause-length c,
      place-in c.args.self c.args.version c.args.rank,
      place-in c.args.self c.args.version (count_to c.args.bound),
      place_before size c.args.rank (count_to c.args.bound) c.requires.rank,
    )
