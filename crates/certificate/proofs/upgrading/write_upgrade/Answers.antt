use Rattle.std.proofs.Common.{◌≡◌, ℕ, List, refl, sym, ap, subst, ◌∙◌, arith}
use Rattle.std.specs.Io.KnownBytes.{Appends}
use Rattle.race_model.specs.Prelude.{count_to, compact, version_by, header, bound_of}
use Rattle.db_layout.specs.Writes.{AppendsPart}
use Rattle.db_layout.proofs.Known.{one-error}
use Rattle.db_layout.proofs.Prefixes.{header-first, header-part, more-part, more-written}
use Rattle.db_layout.proofs.WholeFiles.{records-one}
use Rattle.db_reader.proofs.Failures.{table_first, table_more}
use Rattle.certificate.specs.Upgrades.{compact_record, IsUpgradeRefused}
use Rattle.certificate.specs.declared.upgrade_fault.UpgradeFault.TheVariants.{Write}
use Rattle.certificate.proofs.Upgrades.{part-written, all-written, refused-later}
use Rattle.certificate.proofs.upgrading.write_upgrade.Goals as goal

-- the header that is written, by what it states
header-is : (version : ℕ) (bound other : ℕ) → version ≡ 2 → bound ≡ other →
    header (version_by version) bound ≡ header compact other
header-is version bound other old same = rw (old, same) refl

pub returns-in_err-write_header-clause-refused : goal.returns-in_err-write_header-clause-refused
returns-in_err-write_header-clause-refused g c file told =
    let accepted = c.requires.local file told in
    let old = g.W.Write.contents c.args.writer.now in
    let new = g.W.Write.contents c.write_header.new.writer in
    let made = c.unwrap-header.result in
    let version_is = rw c.unwrap-header.ensures at c.new.ensures.version in
    let bound_is = rw c.unwrap-header.ensures at c.new.ensures.bound in
    let part = subst (λ (bs : List ℕ). AppendsPart old new bs)
    (header-is made.version made.bound (bound_of file) version_is (bound_is ∙ accepted.1))
    (c.in_err-write_header.ensures {u = tt}).part in
    one-error c.from_residual.result Write (IsUpgradeRefused file old new)
    c.from_residual.ensures.1
    (part-written file accepted.0 old new
    (header-part compact (bound_of file) (compact_record file) (count_to (bound_of file)) old new
    part))

pub loop-rank-init : goal.loop-rank-init
loop-rank-init g c = record {
  stays = table_first _;
  written =
      λ file told.
      let old = g.W.Write.contents c.args.writer.now in
      let new = g.W.Write.contents c.write_header.new.writer in
      let made = c.unwrap-header.result in
      let version_is = rw c.unwrap-header.ensures at c.new.ensures.version in
      let bound_is = rw c.unwrap-header.ensures at c.new.ensures.bound in
      header-first compact (bound_of file) (compact_record file) old new
      (subst (λ (bs : List ℕ). Appends old new bs)
      (header-is made.version made.bound (bound_of file) version_is
      (bound_is ∙ (c.requires.local file told).1))
      (c.in_ok-write_header.ensures {u = tt}).all);
}

pub returns-in_err-write_compact-clause-refused : goal.returns-in_err-write_compact-clause-refused
returns-in_err-write_compact-clause-refused g c file told =
    let accepted = c.requires.local file told in
    let is = c.loop-rank.invariant in
    let rank = c.loop-rank.rank in
    let old = g.W.Write.contents c.args.writer.now in
    let mid = g.W.Write.contents c.loop-rank.writer in
    let new = g.W.Write.contents c.write_compact.new.writer in
    let said = c.in_err-write_compact.ensures {u = tt} in
    let part = subst (λ (bs : List ℕ). AppendsPart mid new bs)
    (sym (records-one (compact_record file) rank)) (said.part file (is.stays.told ∙ told)) in
    one-error c.from_residual-in_err-write_compact.result c.in_err-write_compact.field-0.0
    (IsUpgradeRefused file old new)
    c.from_residual-in_err-write_compact.ensures.1
    (refused-later file old new c.in_err-write_compact.field-0.0 said.later
    (part-written file accepted.0 old new
    (more-part compact (bound_of file) (compact_record file) (count_to (bound_of file)) old mid
    new rank 1
    (omega (
      arith,
      c.loop-rank-test.true,
      c.args.old.now.counted,
      ap count_to accepted.1,
    ))
    (is.written file told) part)))

pub loop-rank-preserved : goal.loop-rank-preserved
loop-rank-preserved g c =
    let is = c.loop-rank.invariant in
    let said = c.in_ok-write_compact.ensures {u = tt} in
    record {
      stays = table_more is.stays said.stays (λ e. cc);
      written =
          λ file told.
          let rank = c.loop-rank.rank in
          let old = g.W.Write.contents c.args.writer.now in
          let mid = g.W.Write.contents c.loop-rank.writer in
          let new = g.W.Write.contents c.write_compact.new.writer in
          more-written compact (bound_of file) (compact_record file) old mid new rank 1
          (is.written file told)
          (subst (λ (bs : List ℕ). Appends mid new bs)
          (sym (records-one (compact_record file) rank)) (said.all file (is.stays.told ∙ told)));
    }

pub returns-clause-upgraded : goal.returns-clause-upgraded
returns-clause-upgraded g c file told =
    let accepted = c.requires.local file told in
    let last : c.loop-rank.rank ≡ c.args.old.now.count = omega arith in
    all-written file accepted.0 (g.W.Write.contents c.args.writer.now)
    (g.W.Write.contents c.loop-rank.writer) c.loop-rank.rank
    (last ∙ (c.args.old.now.counted ∙ ap count_to accepted.1))
    (c.loop-rank.invariant.written file told)
