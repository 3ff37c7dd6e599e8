-- The records are checked by rising rank; each is accepted or has the first fault.
use Rattle.std.proofs.Common.{◌≡◌, ◌+◌, ◌<◌, length, sym, ap, subst, ◌∙◌, arith, rules}
use Rattle.race_model.specs.Prelude.{count_to, bound_of, board_book, board_place, IsBoardFile, HoldsOnBoard}
use Rattle.race_model.specs.Prelude.{IsLocalOnBoard, IsFirstBoardHeaderFault}
use Rattle.race_model.proofs.Ranks.PositionTotals.{count_to-most}
use Rattle.db_layout.proofs.BoardPlaces.{board_place-least, board_place-next}
use Rattle.db_layout.specs.LowerRecords.{Lower, board_mean}
use Rattle.certificate.specs.CheckFaults.{IsFirstOnBoard}
use Rattle.certificate.proofs.FileTests.{board-answers, board-of_all, fault-of_file}
use Rattle.certificate.proofs.checker.check_board_records.Goals.{After-find-place, After-lower-lower}
use Rattle.certificate.proofs.checker.check_board_records.Goals as goal

-- what is known of the records so far
module _ (c : After-find-place) where
  few : c.loop-rank.rank < 54264
  few =
      omega (
        arith,
        c.loop-rank-test.true,
        c.args.header.counted,
        count_to-most c.args.header.bound,
      )

  -- all records lie within the bytes
  count-is : c.args.header.count ≡ count_to (bound_of c.args.bytes.now)
  count-is = c.args.header.counted ∙ ap count_to c.requires.bound

  end : length c.args.bytes.now ≡ board_place (count_to c.args.header.bound)
  end = c.requires.file.whole ∙ ap (λ b. board_place (count_to b)) (sym c.requires.bound)

-- the records that the next one is tested by
module _ (c : After-lower-lower) where
  bytes : c.lower-lower.result.bytes ≡ c.args.bytes.now
  bytes = ap (λ (l : Lower). l.bytes) c.lower-lower.ensures

  next : c.lower-lower.result.count ≡ c.loop-rank.rank
  next = ap (λ (l : Lower). l.count) c.lower-lower.ensures ∙ c.loop-rank.invariant.counted

pub check_board_record-requires-clause-below : goal.check_board_record-requires-clause-below
check_board_record-requires-clause-below c =
    omega (
      arith,
      next (goal.at.check_board_record-requires-clause-below c).After-lower-lower,
      few (goal.at.check_board_record-requires-clause-below c).After-find-place,
    )

pub returns-in-Err-clause-first : goal.returns-in-Err-clause-first
returns-in-Err-clause-first c =
    let here = (goal.at.returns-in-Err-clause-first c).After-find-place in
    let lower = (goal.at.returns-in-Err-clause-first c).After-lower-lower in
    let said = rw (next lower, bytes lower) at (c.in-Err.ensures {u = tt}).first
    (omega (arith, c.loop-rank-test.true, count-is here)) in
    subst (IsFirstOnBoard c.args.bytes.now) (sym c.fault_at.ensures)
    (fault-of_file (IsLocalOnBoard c.args.bytes.now) (board_book c.args.bytes.now)
    (HoldsOnBoard c.args.bytes.now) (board-answers c.args.bytes.now)
    (IsFirstBoardHeaderFault c.args.bytes.now) (IsBoardFile c.args.bytes.now) ⊥ c.requires.file
    c.loop-rank.rank c.loop-rank.invariant.records.local c.in-Err.fault said)

pub loop-rank-init : goal.loop-rank-init
loop-rank-init c = record {
  counted = c.new-starts.ensures.count;
  records = c.new-starts.ensures.records c.args.bytes.now
      (omega (
        arith,
        c.requires.file.whole,
        board_place-least (count_to (bound_of c.args.bytes.now)),
      ));
  known = c.new-plays.ensures (board_mean c.args.bytes.now);
}

pub push-requires : goal.push-requires
push-requires c =
    let here = (goal.at.push-requires c).After-find-place in
    let lower = (goal.at.push-requires c).After-lower-lower in
    let counted = c.loop-rank.invariant.counted in (
      search rules,
      (
        omega (arith, counted, few here),
        (
          omega arith,
          (
            c.find-place.ensures.offset ∙ ap board_place (sym counted),
            (
              rw counted (omega (
                arith,
                end here,
                board_place-next c.loop-rank.rank,
                c.find-place.ensures.offset,
                c.find-place.ensures.length,
                c.find-place.ensures.inside,
              )),
              (
                rw counted c.loop-rank.invariant.records,
                rw counted (rw (next lower, bytes lower) at (c.in_default.ensures {u = tt}).local),
              ),
            ),
          ),
        ),
      ),
    )

pub loop-rank-preserved : goal.loop-rank-preserved
loop-rank-preserved c =
    let lower = (goal.at.loop-rank-preserved c).After-lower-lower in
    let counted = c.loop-rank.invariant.counted in
    record {
      counted = c.push.ensures.count ∙ ap (λ n. n + 1) counted;
      records = rw counted at (rw c.push.ensures.count at c.push.ensures.records);
      known = rw (next lower, bytes lower) at (c.in_default.ensures {u = tt}).known;
    }

pub returns-clause-local : goal.returns-clause-local
returns-clause-local c =
    board-of_all c.args.bytes.now c.loop-rank.rank c.requires.file
    (omega (
      arith,
      c.loop-rank-test.false,
      c.args.header.counted,
      ap count_to c.requires.bound,
    ))
    c.loop-rank.invariant.records.local
