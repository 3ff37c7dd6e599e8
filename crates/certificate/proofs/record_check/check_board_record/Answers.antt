-- The tests of one record.
use Rattle.std.proofs.Common.{◌≡◌, ◌↔◌, ℕ, ◌<◌, ◌≤◌, slice_index, refl, sym, ap, subst, ◌∙◌, rules}
use Rattle.std.proofs.lemmas.Bool.{false≢true}
use Rattle.race_model.specs.Prelude.{Board, IsPosition, pips, rank, at_rank, roll_at, roll_index, most_rolls}
use Rattle.race_model.specs.Prelude.{board_book, board_record, board_play_of, HoldsOnBoard, IsLocalOnBoard, spread_test}
use Rattle.race_model.specs.Prelude.{play_in, whole_in}
use Rattle.race_model.proofs.Books.Boards.{board_share_is_count, local_of_counts}
use Rattle.certificate.specs.BoardTests.{IsTested, MeanHolds, CountHolds}
use Rattle.certificate.specs.RecordFaults.{IsFirstFaultOnBoardAt, IsNumberFault}
use Rattle.certificate.proofs.BoardNumberTests.{below-are}
use Rattle.certificate.proofs.RecordTests.{ArePlays, plays-hold, least-mean, first-refused, first-number}
use Rattle.db_layout.specs.LowerRecords.{board_mean}
use Rattle.least_plays.specs.Recorded.{IsLeastPlay}
use Rattle.certificate.proofs.record_check.check_board_record.Goals.{After-plays_by-recorded}
use Rattle.certificate.proofs.record_check.check_board_record.Goals.{then-is_finished, else-is_finished}
use Rattle.certificate.proofs.record_check.check_board_record.Goals as goal

module _ (c : After-plays_by-recorded) where
  -- the position is that of the rank
  same : c.unwrap-position.result ≡ at_rank c.args.lower.now.count
  same = rw (c.unwrap-position.ensures, c.count.ensures.count) at c.unrank.ensures.value

  ranked : rank c.unwrap-position.result ≡ c.args.lower.now.count
  ranked = rw (c.unwrap-position.ensures, c.count.ensures.count) at c.unrank.ensures.ranked

  at : IsPosition c.unwrap-position.result
  at = rw c.unwrap-position.ensures at c.unrank.ensures.position

  -- what the record says of the rolls
  read : (i : ℕ) → i < 21 → slice_index c.plays_by-recorded.result i
      ≡ play_in (board_book c.args.lower.now.bytes) c.unwrap-position.result (roll_at i)
  read i lt =
      let said = c.plays_by-recorded.ensures.each i lt in
      let told : slice_index c.plays_by-recorded.result i
      ≡ board_play_of c.args.stored.now.bytes (roll_index (roll_at i)) = search rules in
      told
      ∙ ap (λ bytes. board_play_of bytes (roll_index (roll_at i)))
      (c.requires.bytes ∙ ap (board_record c.args.lower.now.bytes) (sym ranked))

  -- the tests of the plays are passed
  abbrev AreLeast : Type 0
  AreLeast = (i : ℕ) → i < 21 → IsLeastPlay (board_mean c.args.lower.now.bytes)
      c.unwrap-position.result (roll_at i) (slice_index c.plays_by-recorded.result i)

  -- what the tests of the plays tell of the book
  held-here : AreLeast → ArePlays (board_book c.args.lower.now.bytes) c.unwrap-position.result
  held-here =
      plays-hold (board_book c.args.lower.now.bytes) c.unwrap-position.result
      (slice_index c.plays_by-recorded.result) read at (board_mean c.args.lower.now.bytes)
      (λ _ v z legal. refl)

  -- what the tests of the plays tell of the record
  tested : AreLeast → IsTested c.args.lower.now c.unwrap-position.result c.args.stored.now
      (slice_index c.plays_by-recorded.result)
  tested least = record {
    position = at;
    next = ranked;
    pips_are = c.requires.pips ∙ ap pips (sym same);
    bytes = c.requires.bytes ∙ ap (board_record c.args.lower.now.bytes) (sym ranked);
    read = read;
    held = held-here least;
    local = c.count.ensures.local;
  }

pub returns-in-Err-clause-first : goal.returns-in-Err-clause-first
returns-in-Err-clause-first c lt =
    let here = (goal.at.returns-in-Err-clause-first c).After-plays_by-recorded in
    let f = c.args.lower.now.bytes in
    subst (IsFirstFaultOnBoardAt f c.args.lower.now.count) (sym c.of_refused.ensures)
    (first-refused (board_book f) c.unwrap-position.result
    (slice_index c.plays_by-recorded.result) (read here) (at here) (board_mean f)
    (λ _ v z legal. refl) (HoldsOnBoard f) ⊥ c.args.lower.now.count lt (same here)
    (λ i. (λ h. h, λ h. h))
    (λ i. (λ h. h, λ h. h)) c.in-Err.refused (c.in-Err.ensures {u = tt}).fault)

pub word_sums-words-requires : goal.word_sums-words-requires
word_sums-words-requires c =
    let here = (goal.at.word_sums-words-requires c).After-plays_by-recorded in
    below-are (tested here (c.in_default.ensures {u = tt}).least)
    (λ end. false≢true (sym c.if-is_finished.false ∙ c.is_finished.ensures.value.1 end))

pub check_numbers-requires : goal.check_numbers-requires
check_numbers-requires c =
    let here = (goal.at.check_numbers-requires c).After-plays_by-recorded in (
      tested here (c.in_default.ensures {u = tt}).least,
      λ unfinished. elim c.if-is_finished.branch [
        | then-is_finished w ↦
            absurd (unfinished (c.is_finished.ensures.value.0 w.if-is_finished.true))
        | else-is_finished w ↦ λ i lt.
            ap (λ words. slice_index words i) w.words-is ∙ w.word_sums-words.ensures.sums i lt
      ],
      c.most_rolls-rolls.ensures ∙ ap most_rolls c.pips.ensures.value,
    )

pub returns-in-Ok-clause-local : goal.returns-in-Ok-clause-local
returns-in-Ok-clause-local c =
    let here = (goal.at.returns-in-Ok-clause-local c).After-plays_by-recorded in
    let f = c.args.lower.now.bytes in
    let said = c.in-Ok.ensures {u = tt} in
    subst (IsLocalOnBoard f) (same here)
    (local_of_counts f c.unwrap-position.result
    (record { mean = said.mean.0; counts = λ k le. (said.each k le).0 })
    (least-mean (board_book f) (whole_in (board_book f)) c.unwrap-position.result
    (held-here here (c.in_default.ensures {u = tt}).least) said.mean.1)
    (λ k le. (said.each k le).1))

pub returns-in-Err-check_numbers-clause-first : goal.returns-in-Err-check_numbers-clause-first
returns-in-Err-check_numbers-clause-first c lt =
    let here = (goal.at.returns-in-Err-check_numbers-clause-first c).After-plays_by-recorded in
    let f = c.args.lower.now.bytes in
    let x = at_rank c.args.lower.now.count in
    first-number (board_book f) (HoldsOnBoard f) ⊥ c.args.lower.now.count lt
    (subst (ArePlays (board_book f)) (same here)
    (held-here here (c.in_default.ensures {u = tt}).least))
    (MeanHolds f x) (CountHolds f x) (λ h. h, λ h. h) asked c.in-Err-check_numbers.fault
    (subst (λ (y : Board). IsNumberFault (MeanHolds f y) (CountHolds f y) 33
    c.in-Err-check_numbers.fault) (same here) (c.in-Err-check_numbers.ensures {u = tt}).fault)
  where
    -- what is tested of a count is asked of it: the equation of shares is that of counts
    asked : (k : ℕ) → k ≤ 33 → CountHolds c.args.lower.now.bytes (at_rank c.args.lower.now.count) k
        ↔ HoldsOnBoard c.args.lower.now.bytes (spread_test c.args.lower.now.count k)
    asked k few =
        let same =
        board_share_is_count c.args.lower.now.bytes (at_rank c.args.lower.now.count) k few in
        (λ counted. (counted.0, same.1 counted.1), λ holds. (holds.0, same.0 holds.1))
