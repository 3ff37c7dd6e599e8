use Rattle.std.proofs.Common.{ap, ◌∙◌}
use Rattle.race_model.specs.Prelude.{first_of, compact, record_place, board_place}
use Rattle.db_layout.proofs.KnownStarts.{at_start, at_board_start}
use Rattle.db_layout.proofs.stated.Kind.start_of.Goals as goal

pub returns-in-Database : goal.returns-in-Database
returns-in-Database c =
    rw c.in-Database.is
    (c.from.ensures
    ∙ at_start c.from-index.result (rw c.from-index.ensures (rw c.in-Database.is at c.requires))
    ∙ ap (λ p. record_place compact (first_of p)) c.from-index.ensures)

pub returns-in-Board : goal.returns-in-Board
returns-in-Board c =
    rw c.in-Board.is
    (c.from-in-Board.ensures
    ∙ at_board_start c.from-index.result (rw c.from-index.ensures (rw c.in-Board.is at c.requires))
    ∙ ap (λ p. board_place (first_of p)) c.from-index.ensures)
