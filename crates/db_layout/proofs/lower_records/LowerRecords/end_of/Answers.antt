-- A record ends where the next one begins.
use Rattle.std.proofs.Common.{ap, sym, ◌∙◌, arith}
use Rattle.race_model.specs.Prelude.{board_length, board_place}
use Rattle.db_layout.proofs.RecordPlaces.{pips_between}
use Rattle.db_layout.proofs.BoardPlaces.{board_place-next}
use Rattle.db_layout.specs.LowerRecords.{Lower}
use Rattle.db_layout.proofs.lower_records.LowerRecords.end_of.Goals as goal

pub returns : goal.returns
returns c =
    let count = ap (λ (l : Lower). l.count) c.self.view_is in
    let here = c.self.invariant.begin c.from-place.result
    (omega (arith, c.requires, count, c.from-place.ensures))
    ∙ ap board_place c.from-place.ensures in
    let long = c.board_length.ensures
    ∙ ap board_length (sym (pips_between c.pips_of.result c.args.rank c.pips_of.ensures.from
    c.pips_of.ensures.to)) in
    omega (arith, here, long, board_place-next c.args.rank)
