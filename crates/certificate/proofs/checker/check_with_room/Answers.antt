-- The records are checked by rising rank; each is accepted or has the first fault.
use Rattle.std.proofs.Common.{◌+◌, Err, length, take, sym, ap, subst, ◌∙◌, arith, rules}
use Rattle.race_model.specs.Prelude.{count_to, IsFile, book_of, Holds, IsFirstHeaderFault, IsLocalAt}
use Rattle.certificate.specs.CheckFaults.{IsFirst}
use Rattle.certificate.specs.KeptMeans.{kept_mean}
use Rattle.certificate.specs.LowerRecords.{IsLower}
use Rattle.db_reader.proofs.Failures.{err-same, table_first, table_then, table_as, table_more}
use Rattle.db_layout.proofs.KnownRecords.{accepted-more}
use Rattle.certificate.proofs.FileTests.{answers, fault-of_file, fault-read, local-of_all}
use Rattle.certificate.proofs.checker.check_with_room.Goals as goal

pub check_record-requires : goal.check_record-requires
check_record-requires g c =
    let before = c.loop-rank.invariant in (
      search rules,
      (
        before.stays.accepted ∙ c.requires.header,
        (
          c.loop-rank-test.true,
          (
            c.requires.room,
            (
              c.requires.near c.loop-rank.rank c.loop-rank-test.true,
              (
                c.requires.rows c.loop-rank.rank c.loop-rank-test.true,
                (
                  c.requires.small,
                  (
                    (λ file told. c.requires.file file (sym before.stays.told ∙ told)),
                    (
                      (λ file told. before.lower file (sym before.stays.told ∙ told)),
                      subst (λ told. IsLower told c.loop-rank.lower c.loop-rank.rank)
                          (sym before.stays.told) before.kept,
                    ),
                  ),
                ),
              ),
            ),
          ),
        ),
      ),
    )

pub returns-in-Err-clause-first : goal.returns-in-Err-clause-first
returns-in-Err-clause-first g c file told =
    let before = c.loop-rank.invariant in
    let whole = (c.requires.file file told).file in
    let first = (c.in-Err.ensures {u = tt}).first file (before.stays.told ∙ told) in
    subst (IsFirst file) (sym c.fault_at.ensures)
    (fault-of_file (IsLocalAt file) (book_of file) (Holds file) (answers file)
    (IsFirstHeaderFault (take 32 file) (length file)) (IsFile file) (Unit {0}) whole
    c.loop-rank.rank (before.lower file told) c.in-Err.fault first)

pub returns-in-Err-clause-stays : goal.returns-in-Err-clause-stays
returns-in-Err-clause-stays g c =
    let same = fault-read c.loop-rank.rank c.in-Err.fault in
    table_then c.loop-rank.invariant.stays (λ no. no)
    (table_as (c.in-Err.ensures {u = tt}).stays
    (λ e. ap Err (same.0 (sym c.fault_at.ensures ∙ err-same e)))
    (λ e. ap Err (c.fault_at.ensures ∙ same.1 (err-same e))))

pub loop-rank-preserved : goal.loop-rank-preserved
loop-rank-preserved g c =
    let before = c.loop-rank.invariant in
    let fine = c.in_default.ensures {u = tt} in
    record {
      stays = table_more before.stays fine.stays (λ e. cc);
      kept =
          subst (λ told. IsLower told c.check_record.new.lower (c.loop-rank.rank + 1))
          before.stays.told fine.kept;
      lower = λ file told. accepted-more (IsLocalAt file) c.loop-rank.rank (before.lower file told)
          (fine.local file (before.stays.told ∙ told));
    }

pub returns-clause-local : goal.returns-clause-local
returns-clause-local g c file told =
    let said = c.requires.file file told in
    let count = c.args.header.counted ∙ ap count_to said.bound_is in
    local-of_all file c.loop-rank.rank said.file (omega (arith, count, c.loop-rank-test.false))
    (c.loop-rank.invariant.lower file told)

pub loop-rank-init : goal.loop-rank-init
loop-rank-init g c = record {
  stays = table_first _;
  kept = record {
    known = c.new-lower.ensures (kept_mean g.row.ROOM c.new-lower.result.means);
    means_are = λ file told r lt near. absurd (omega arith);
  };
  lower = λ file told z at lt. absurd (omega arith);
}
