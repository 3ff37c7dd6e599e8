-- Bytes of which each question is answered yes are a board file.
use Rattle.std.proofs.Common.{◌∙◌, arith}
use Rattle.race_model.specs.Prelude.{bound}
use Rattle.race_model.proofs.FirstFaults.HeaderFacts.{board_of_header}
use Rattle.db_layout.proofs.board_header.parse_board_header.Goals as goal

pub of_bound-requires : goal.of_bound-requires
of_bound-requires c =
    let said = c.in-Ok.ensures {u = tt} in
    rw said.stated.1 (said.header bound)

pub returns-in-Ok-clause-header : goal.returns-in-Ok-clause-header
returns-in-Ok-clause-header c =
    let said = c.in-Ok.ensures {u = tt} in (
      board_of_header c.args.file.now (λ i. let fits = c.type_inv.file i in omega arith)
          said.header,
      c.of_bound.ensures ∙ said.stated.1,
    )
