-- What a record tells is written, and at most all sequences.
use Rattle.std.proofs.Common.{◌≡◌, ℕ, ◌+◌, ◌*◌, ◌^◌, ◌<◌, ◌≤◌, List, ap, ap₂, subst, sym, ◌∙◌, arith, IsSome}
use Rattle.std.specs.Int.{w64, w128, from_be_bytes}
use Rattle.race_model.specs.Prelude.{pips, at_rank, bytes_at, most_rolls, Parts, board_record, count_at, count_parts}
use Rattle.race_model.specs.Prelude.{value_of_parts}
use Rattle.race_model.proofs.RightFiles.CountParts.{count-long}
use Rattle.db_layout.proofs.KnownRecords.{count-most, count-written, of_some, told-beyond, told-within}
use Rattle.db_layout.proofs.board_numbers.long.Goals.{After-new}
use Rattle.db_layout.proofs.board_numbers.long.Goals as goal

-- the count stands in the record
module _ (c : After-new) where
  within : c.args.k ≤ most_rolls (pips (at_rank c.args.rank))
  within =
      omega (
        arith,
        c.if-record-place.false,
        c.record-record.ensures.len,
        c.requires.place,
        c.requires.many,
        c.requires.few,
      )

  -- its parts
  parts_are : count_parts (board_record c.args.lower.now.bytes c.args.rank) c.args.k
      ≡ record { upper = c.read_wide-upper.result; lower = c.read_long.result }
  parts_are =
      count-long (board_record c.args.lower.now.bytes c.args.rank) c.args.k c.requires.many
      ∙ ap₂ (λ (bs : List ℕ) (n : ℕ). record {
        upper = from_be_bytes w128 (bytes_at bs n 16);
        lower = from_be_bytes w64 (bytes_at bs (n + 16) 8);
      }) (sym c.record-record.ensures.bytes) (sym c.requires.place)
      ∙ ap₂ (λ (n m : ℕ). record { upper = n; lower = m }) (sym c.read_wide-upper.ensures)
      (sym c.read_long.ensures)

  count_is : count_at c.args.lower.now.bytes c.args.rank c.args.k
      ≡ c.read_wide-upper.result * 36 ^ 11 + c.read_long.result
  count_is =
      told-within c.args.lower.now.bytes c.args.rank c.args.k
      (omega (arith, c.requires.many)) within
      ∙ ap value_of_parts parts_are

  small : c.read_long.result < 36 ^ 11
  small =
      let known = c.count-count.ensures in
      subst (λ (parts : Parts). parts.lower < 36 ^ 11) parts_are
      (count-written c.args.lower.now.bytes c.args.lower.now.count known.few known.local c.args.rank
      c.requires.rank c.args.k (omega (arith, c.requires.many)) within)

  is_count : IsSome c.new.result
  is_count =
      let known = c.count-count.ensures in
      let most = count-most c.args.lower.now.bytes c.args.lower.now.count known.few known.local
      c.args.rank c.requires.rank c.args.k (omega (arith, c.requires.few)) in
      c.new.ensures.some.1 (small, omega (arith, most, count_is))

pub returns-then-record-place : goal.returns-then-record-place
returns-then-record-place c =
    sym (told-beyond c.args.lower.now.bytes c.args.rank c.args.k
    (omega (
      arith,
      c.if-record-place.true,
      c.record-record.ensures.len,
      c.requires.place,
      c.requires.many,
    )))

pub returns : goal.returns
returns c =
    let now = (goal.at.returns c).After-new in
    c.unwrap_or.ensures
    ∙ of_some (λ count. count ≡ c.read_wide-upper.result * 36 ^ 11 + c.read_long.result)
    c.new.result 0 (is_count now) c.new.ensures.value
    ∙ sym (count_is now)
