use Rattle.std.proofs.Common.{◌≡◌, ℕ, ◌+◌, ◌-◌, ap, subst, ◌∙◌, arith, List, length, slice_index}
use Rattle.std.proofs.KnownBytes.{Appends-nil}
use Rattle.std.specs.Io.KnownBytes.{Appends}
use Rattle.race_model.specs.Prelude.{first_of, count_to, version_by}
use Rattle.race_model.proofs.Ranks.RankOrder.{first_of-zero, count_to-rises}
use Rattle.db_layout.specs.WholeFiles.{records_from}
use Rattle.db_layout.specs.Writes.{AppendsPart}
use Rattle.db_layout.proofs.Bounds.{bound-most}
use Rattle.db_layout.proofs.Prefixes.{header-first}
use Rattle.db_layout.proofs.RecordPlaces.{first_of-next}
use Rattle.retrograde.specs.AllRecords.{mean_of_rank, bytes_of_rank}
use Rattle.retrograde.specs.declared.build_fault.BuildFault.TheVariants.{Memory, Write}
use Rattle.retrograde.proofs.Existence.{all-records}
use Rattle.retrograde.proofs.Kept.{kept-none, lent-whole}
use Rattle.retrograde.proofs.Levels.{level-end}
use Rattle.retrograde.proofs.Prefixes.{refused_build, nothing-written, header-written, ranks-written}
use Rattle.retrograde.proofs.Prefixes.{level-part, level-written, all-written}
use Rattle.retrograde.proofs.building.build_with_rows.Given.{Over}
use Rattle.retrograde.proofs.building.build_with_rows.Goals.{After-as_slice}
use Rattle.retrograde.proofs.building.build_with_rows.Goals as goal

pub grow-requires-clause-kept : goal.grow-requires-clause-kept
grow-requires-clause-kept g c =
    let records = c.new-records.result in
    rw first_of-zero
    (kept-none records.means.items records.places.items records.shares.items
    (ap (λ (xs : List ℕ). slice_index xs 0) c.new-records.ensures))

pub returns-in_err-grow : goal.returns-in_err-grow
returns-in_err-grow g c =
    let version = version_by c.args.header.version in
    let bound = c.args.header.bound in
    let writer = g.W.Write.contents c.args.writer.now in record {
      built = refused_build version bound writer writer c.from_residual.result Memory
          c.from_residual.ensures.1 (
            bound-most c.args.header,
            nothing-written version all-records bound c.args.header.bounded writer writer
                (Appends-nil writer),
          );
    }

pub returns-in_err-write_header : goal.returns-in_err-write_header
returns-in_err-write_header g c =
    let version = version_by c.args.header.version in
    let bound = c.args.header.bound in
    let old = g.W.Write.contents c.args.writer.now in
    let new = g.W.Write.contents c.write_header.new.writer in record {
      built = refused_build version bound old new c.from_residual-in_err-write_header.result Write
          c.from_residual-in_err-write_header.ensures.1 (
            bound-most c.args.header,
            header-written version all-records bound c.args.header.bounded old new
                c.in_err-write_header.ensures.part,
          );
    }

pub loop-pips-init : goal.loop-pips-init
loop-pips-init g c =
    let version = version_by c.args.header.version in
    let bound = c.args.header.bound in
    let old = g.W.Write.contents c.args.writer.now in
    let new = g.W.Write.contents c.write_header.new.writer in record {
      kept = c.in_ok-grow.ensures.kept;
      known = λ full. rw first_of-zero (c.new-least.ensures (mean_of_rank full));
      written = rw first_of-zero
          (header-first version bound (bytes_of_rank version all-records) old new
          c.in_ok-write_header.ensures.all);
    }

pub returns-in_err-grow-2 : goal.returns-in_err-grow-2
returns-in_err-grow-2 g c =
    let version = version_by c.args.header.version in
    let bound = c.args.header.bound in
    let old = g.W.Write.contents c.args.writer.now in
    let new = g.W.Write.contents c.loop-pips.writer in
    let p = c.loop-pips.pips in record {
      built = refused_build version bound old new c.from_residual-in_err-grow-2.result Memory
          c.from_residual-in_err-grow-2.ensures.1 (
            bound-most c.args.header,
            ranks-written version all-records bound c.args.header.bounded old new (first_of p)
                (omega (
                  arith,
                  level-end p,
                  count_to-rises p bound (omega (arith, c.loop-pips-test.true)),
                ))
                c.loop-pips.invariant.written,
          );
    }

-- the bytes that are written are those of the level
bytes_are : (g : Over) (c : After-as_slice g) → c.as_slice.result.now
    ≡ records_from (bytes_of_rank (version_by c.args.header.version) all-records)
    (first_of c.loop-pips.pips) (count_to c.loop-pips.pips - first_of c.loop-pips.pips)
bytes_are g c =
    let level = c.grow-in-loop-pips.new.self.level in
    c.as_slice.ensures.value
    ∙ lent-whole c.add_level.new.level level.items level.len
    (c.add_level.ensures.level ∙ ap length c.as_mut_slice-in-loop-pips-3.ensures.value) level.ok.0
    ∙ c.add_level.ensures.bytes all-records

pub returns-in_err-write_bytes : goal.returns-in_err-write_bytes
returns-in_err-write_bytes g c =
    let version = version_by c.args.header.version in
    let bound = c.args.header.bound in
    let old = g.W.Write.contents c.args.writer.now in
    let mid = g.W.Write.contents c.loop-pips.writer in
    let new = g.W.Write.contents c.write_bytes.new.writer in record {
      built = refused_build version bound old new c.from_residual-in_err-write_bytes.result Write
          c.from_residual-in_err-write_bytes.ensures.1 (
            bound-most c.args.header,
            level-part version all-records bound c.args.header.bounded old mid new
                c.loop-pips.pips (omega (arith, c.loop-pips-test.true))
                c.loop-pips.invariant.written
                (subst (λ (bs : List ℕ). AppendsPart mid new bs)
                (bytes_are g (goal.at.returns-in_err-write_bytes g c).After-as_slice)
                c.in_err-write_bytes.ensures.part),
          );
    }

pub loop-pips-preserved : goal.loop-pips-preserved
loop-pips-preserved g c =
    let version = version_by c.args.header.version in
    let bound = c.args.header.bound in
    let old = g.W.Write.contents c.args.writer.now in
    let mid = g.W.Write.contents c.loop-pips.writer in
    let new = g.W.Write.contents c.write_bytes.new.writer in
    let p = c.loop-pips.pips in
    let grown = c.grow-in-loop-pips.new.self in
    let made = c.add_level.new in
    let is = c.add_level.ensures in record {
      kept = rw (
        first_of-next p,
        lent-whole made.means grown.means.items grown.means.len
            (is.means ∙ ap length c.as_mut_slice.ensures.value) grown.means.ok.0,
        lent-whole made.places grown.places.items grown.places.len
            (is.places ∙ ap length c.as_mut_slice-in-loop-pips.ensures.value) grown.places.ok.0,
        lent-whole made.shares grown.shares.items grown.shares.len
            (is.shares ∙ ap length c.as_mut_slice-in-loop-pips-2.ensures.value) grown.shares.ok.0,
      ) is.kept;
      known = λ full. rw (first_of-next p) (is.known full);
      written = rw (first_of-next p)
          (level-written version all-records bound c.args.header.bounded old mid new p
          c.loop-pips.invariant.written
          (subst (λ (bs : List ℕ). Appends mid new bs)
          (bytes_are g (goal.at.loop-pips-preserved g c).After-as_slice)
          c.in_ok-write_bytes.ensures.all));
    }

pub returns : goal.returns
returns g c =
    let version = version_by c.args.header.version in
    let bound = c.args.header.bound in
    let old = g.W.Write.contents c.args.writer.now in
    let new = g.W.Write.contents c.loop-pips.writer in
    let last : c.loop-pips.pips ≡ bound + 1 =
    omega (arith, c.loop-pips-test.false, c.loop-pips.auto.pips-end) in record {
      built = all-written version all-records bound c.args.header.bounded old new
          (first_of c.loop-pips.pips) (ap first_of last ∙ first_of-next bound)
          c.loop-pips.invariant.written;
    }
