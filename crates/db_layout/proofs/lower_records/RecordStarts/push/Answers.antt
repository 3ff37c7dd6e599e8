-- One record more begins behind the others.
use Rattle.std.proofs.Common.{◌≡◌, ap, ◌∙◌, length-set, w32, arith}
use Rattle.std.proofs.Math.Facts.{Fits-of_lt}
use Rattle.race_model.specs.Prelude.{board_place, IsLocalOnBoard}
use Rattle.race_model.proofs.Numbers.Members.{set_next}
use Rattle.db_layout.specs.LowerRecords.{leading_at}
use Rattle.db_layout.proofs.BoardPlaces.{board_place-most, board_place-next}
use Rattle.db_layout.proofs.KnownRecords.{accepted-more}
use Rattle.db_layout.proofs.lower_records.RecordStarts.push.Goals as goal

pub overflow_cast-self : goal.overflow_cast-self
overflow_cast-self g c =
    Fits-of_lt {w = w32}
    (omega (
      arith,
      c.requires.place,
      c.requires.room,
      c.requires.few,
      board_place-most c.args.self.now.count,
    ))

pub leading_bits-requires : goal.leading_bits-requires
leading_bits-requires g c =
    omega (
      arith,
      c.requires.place,
      c.requires.long,
      board_place-next c.args.self.now.count,
    )

pub returns-clause-records : goal.returns-clause-records
returns-clause-records g c =
    let n = c.args.self.now.count in
    let offsets = c.args.self.now.offsets in
    let leading = c.args.self.now.leading in
    let bits = c.leading_bits.result in
    let known = c.requires.records in
    let index = c.from-index in record {
      few = omega (arith, c.requires.room, c.requires.few);
      long = c.requires.long;
      told = omega (arith, c.requires.room, length-set offsets index.result c.args.offset);
      begin =
          set_next (λ r offset. offset ≡ board_place r) offsets n index.result c.args.offset 0
          index.ensures (omega (arith, c.requires.room)) known.begin c.requires.place;
      as_many = omega (arith, c.requires.room, length-set leading index.result bits);
      lead =
          set_next (λ r first. first ≡ leading_at c.args.bytes.now (board_place r)) leading n
          index.result bits 0 index.ensures (omega (arith, c.requires.room)) known.lead
          (c.leading_bits.ensures ∙ ap (leading_at c.args.bytes.now) c.requires.place);
      local = accepted-more (IsLocalOnBoard c.args.bytes.now) n known.local c.requires.local;
    }
