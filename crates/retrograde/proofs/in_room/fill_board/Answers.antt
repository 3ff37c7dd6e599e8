use Rattle.std.proofs.Common.{◌≡◌, ℕ, ◌+◌, ◌<◌, ◌≤◌, List, length, take, ap, ap₂, rules}
use Rattle.std.proofs.Common.{sym, subst, ◌∙◌, arith}
use Rattle.std.proofs.lemmas.List.{length-take-le}
use Rattle.race_model.specs.Prelude.{Board, pips, rank, at_rank, bytes_at, board_length, board_place, board_record}
use Rattle.race_model.proofs.Ranks.RankOrder.{at_rank_position, pips-range}
use Rattle.race_model.proofs.Ranks.PositionTotals.{count_to-most, rank-at_rank}
use Rattle.least_plays.proofs.Knowing.{knows_agree}
use Rattle.db_layout.proofs.BoardPlaces.{board_place-least, board_place-next, board_place-rises, board_length-most}
use Rattle.db_layout.proofs.ByteParts.{front-agree}
use Rattle.db_layout.proofs.SameFronts.{rest-agree}
use Rattle.db_layout.proofs.SameRecords.{records-agree, mean_of-agree, records-stay}
use Rattle.db_layout.specs.LowerRecords.{AreRecords, Lower, board_mean}
use Rattle.retrograde.specs.BuiltBoards.{IsBuiltTo}
use Rattle.retrograde.specs.NextBoardRecord.{IsRecordBy}
use Rattle.retrograde.proofs.BoardFiles.{built_in_room}
use Rattle.retrograde.proofs.NextBoardRecords.{built-next, record-front}
use Rattle.retrograde.proofs.in_room.fill_board.Given.{Over}
use Rattle.retrograde.proofs.in_room.fill_board.Goals.{After-find-place, After-put_record, After-put_bytes-in-loop-rank}
use Rattle.retrograde.proofs.in_room.fill_board.Goals as goal

pub put_bytes-requires : goal.put_bytes-requires
put_bytes-requires g c =
    omega (
      arith,
      c.requires.room,
      board_place-least c.args.header.now.count,
      ap length c.to_bytes.ensures,
    )

pub loop-rank-init : goal.loop-rank-init
loop-rank-init g c =
    let room = c.put_bytes.new.room in
    let long : length c.to_bytes.result ≡ 32 = ap length c.to_bytes.ensures in
    record {
      len = c.put_bytes.ensures.len;
      headed =
          ap (λ n. take n room) (sym long) ∙ c.put_bytes.ensures.there ∙ c.to_bytes.ensures;
      counted = c.new-starts.ensures.count;
      records = c.new-starts.ensures.records room
          (omega (
            arith,
            c.put_bytes.ensures.len,
            c.requires.room,
            board_place-least c.args.header.now.count,
          ));
      built = record {
        local = λ z at under. absurd (omega arith);
        plays = λ z at under. absurd (omega arith);
      };
      known = c.new-least.ensures (board_mean room);
      rest =
          rest-agree room c.args.room.now c.put_bytes.result
          (board_place c.args.header.now.count)
          (omega (arith, long, c.put_bytes.ensures.end, board_place-least c.args.header.now.count))
          c.put_bytes.ensures.rest;
    }

-- where the loop stands
module _ (g : Over) (c : After-find-place g) where
  -- the record ends in the room
  ends : board_place (c.loop-rank.rank + 1) ≤ length c.loop-rank.room
  ends =
      omega (
        arith,
        c.requires.room,
        c.loop-rank.invariant.len,
        board_place-next c.loop-rank.rank,
        board_place-rises c.loop-rank.rank c.args.header.now.count c.loop-rank-test.true,
      )

-- the record is the first of the bytes
module _ (g : Over) (c : After-put_record g) where
  fits : c.find-place.result.length ≤ length c.put_record.new.bytes
  fits =
      omega (
        arith,
        c.put_record.ensures.len,
        c.find-place.ensures.length,
        board_length-most (pips (at_rank c.loop-rank.rank))
            (pips-range (at_rank c.loop-rank.rank) (at_rank_position c.loop-rank.rank)),
      )

  part : length (take c.find-place.result.length c.put_record.new.bytes)
      ≡ c.find-place.result.length
  part = length-take-le c.find-place.result.length c.put_record.new.bytes fits

pub slice_bounds-bytes-end : goal.slice_bounds-bytes-end
slice_bounds-bytes-end g c = fits g (goal.at.slice_bounds-bytes-end g c).After-put_record

pub slice_bounds-put_bytes-end-in-loop-rank : goal.slice_bounds-put_bytes-end-in-loop-rank
slice_bounds-put_bytes-end-in-loop-rank g c =
    sym (part g (goal.at.slice_bounds-put_bytes-end-in-loop-rank g c).After-put_record)

-- the record is written
module _ (g : Over) (c : After-put_bytes-in-loop-rank g) where
  abbrev n : ℕ
  n = c.loop-rank.rank

  abbrev x : Board
  x = c.unwrap-position.result

  abbrev old : List ℕ
  old = c.loop-rank.room

  abbrev new : List ℕ
  new = c.put_bytes-in-loop-rank.new.room

  few : n < 54264
  few =
      omega (
        arith,
        c.loop-rank-test.true,
        c.args.header.now.counted,
        count_to-most c.args.header.now.bound,
      )

  bytes : c.lower-lower.result.bytes ≡ old
  bytes = ap (λ (l : Lower). l.bytes) c.lower-lower.ensures

  ranked : rank x ≡ n
  ranked = rw c.unwrap-position.ensures at c.unrank.ensures.ranked

  -- the bytes before it stay
  front : take (board_place n) old ≡ take (board_place n) new
  front = sym (rw c.find-place.ensures.offset at c.put_bytes-in-loop-rank.ensures.front)

  same : (r : ℕ) → r < n → board_record old r ≡ board_record new r
  same = records-agree old new (board_place n) n front (omega arith)

  records : AreRecords new n c.loop-rank.starts.offsets c.loop-rank.starts.leading
  records =
      records-stay old new n c.loop-rank.starts.offsets c.loop-rank.starts.leading front
      (sym c.put_bytes-in-loop-rank.ensures.len) c.loop-rank.invariant.records

  -- it is the record of its position
  written : length (take c.find-place.result.length c.put_record.new.bytes)
      ≡ c.find-place.result.length →
      board_record new n ≡ take (board_length (pips x)) c.put_record.new.bytes
  written long =
      let length_is = c.find-place.ensures.length in
      ap₂ (bytes_at new) (sym c.find-place.ensures.offset)
      (sym length_is ∙ sym long)
      ∙ c.put_bytes-in-loop-rank.ensures.there
      ∙ ap (λ k. take k c.put_record.new.bytes)
      (length_is ∙ ap (λ y. board_length (pips y))
      (sym (rw c.unwrap-position.ensures at c.unrank.ensures.value)))

  built : length (take c.find-place.result.length c.put_record.new.bytes)
      ≡ c.find-place.result.length → IsBuiltTo new (n + 1)
  built long =
      rw ranked at
      (built-next old new x c.advance-plays.result
      (rw c.unwrap-position.ensures at c.unrank.ensures.position)
      (λ r less. same r (omega (arith, less, ranked))) (rw ranked c.loop-rank.invariant.built)
      (rw bytes at c.advance-plays.ensures.best)
      (subst (IsRecordBy old x c.advance-plays.result)
      (sym (ap (board_record new) ranked ∙ written long))
      (record-front old x c.advance-plays.result c.put_record.new.bytes
      (rw bytes at c.put_record.ensures.says))))

pub push-requires : goal.push-requires
push-requires g c =
    let here = (goal.at.push-requires g c).After-put_bytes-in-loop-rank in
    let long = part g (goal.at.push-requires g c).After-put_record in
    let counted = c.loop-rank.invariant.counted in (
      search rules,
      (
        omega (arith, counted, c.loop-rank-test.true, c.requires.offsets),
        (
          c.requires.positions,
          (
            c.find-place.ensures.offset ∙ ap board_place (sym counted),
            (
              rw counted (omega (
                arith,
                ends g (goal.at.push-requires g c).After-find-place,
                c.put_bytes-in-loop-rank.ensures.len,
              )),
              (
                rw counted (records g here),
                rw counted ((built g here long).local (at_rank c.loop-rank.rank)
                    (at_rank_position c.loop-rank.rank)
                    (omega (arith, rank-at_rank c.loop-rank.rank (few g here)))),
              ),
            ),
          ),
        ),
      ),
    )

pub loop-rank-preserved : goal.loop-rank-preserved
loop-rank-preserved g c =
    let here = (goal.at.loop-rank-preserved g c).After-put_bytes-in-loop-rank in
    let is = c.loop-rank.invariant in
    let n = c.loop-rank.rank in
    let old = c.loop-rank.room in
    let new = c.put_bytes-in-loop-rank.new.room in
    let put = c.put_bytes-in-loop-rank.ensures in
    let long = part g (goal.at.loop-rank-preserved g c).After-put_record in
    record {
      len = put.len ∙ is.len;
      headed =
          front-agree new old 32 (board_place n) (board_place-least n) (sym (front g here))
          ∙ is.headed;
      counted = c.push.ensures.count ∙ ap (λ n. n + 1) is.counted;
      records = rw is.counted at (rw c.push.ensures.count at c.push.ensures.records);
      built = built g here long;
      known =
          knows_agree (board_mean old) (board_mean new) c.advance-plays.new.self (n + 1)
          (λ q less. mean_of-agree old new n (same g here) q (omega (arith, less)))
          (rw (ranked g here, bytes g here) at c.advance-plays.ensures.known);
      rest =
          rest-agree new old c.put_bytes-in-loop-rank.result (board_place c.args.header.now.count)
          (omega (
            arith,
            put.end,
            long,
            c.find-place.ensures.offset,
            c.find-place.ensures.length,
            board_place-rises n c.args.header.now.count c.loop-rank-test.true,
          ))
          put.rest
          ∙ is.rest;
    }

pub returns-clause-built : goal.returns-clause-built
returns-clause-built g c = λ small.
    built_in_room c.loop-rank.room c.args.header.now.bound c.args.header.now.count small
    c.args.header.now.bounded c.args.header.now.counted c.loop-rank.invariant.headed
    (omega (arith, c.loop-rank.invariant.len, c.requires.room))
    (let all : c.loop-rank.rank ≡ c.args.header.now.count =
    omega (arith, c.loop-rank-test.false, c.loop-rank.auto.rank-end) in
    subst (IsBuiltTo c.loop-rank.room) all c.loop-rank.invariant.built)
