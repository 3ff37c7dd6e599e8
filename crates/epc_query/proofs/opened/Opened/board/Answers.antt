use Rattle.std.proofs.Common.{ℕ, List, ap, subst, sym, ◌∙◌}
use Rattle.race_model.specs.Prelude.{board_book}
use Rattle.db_layout.specs.declared.stated.Kind.{Kind}
use Rattle.epc_query.specs.Kinds.{IsRightAs}
use Rattle.epc_query.proofs.FileBooks.{opened_book}
use Rattle.epc_query.proofs.opened.Opened.board.Goals as goal

pub kept-requires-clause-right : goal.kept-requires-clause-right
kept-requires-clause-right c =
    subst (λ kind. IsRightAs kind c.self.inside.bytes.now)
    (ap (λ (opened : Kind × List ℕ). opened.0) c.self.view_is ∙ c.requires)
    c.self.invariant.0.right

pub returns-clause-book : goal.returns-clause-book
returns-clause-book c =
    opened_book _ _ _ c.self.view_is c.requires ∙ ap board_book (sym c.kept.ensures)

pub returns-clause-bytes : goal.returns-clause-bytes
returns-clause-bytes c =
    c.kept.ensures ∙ ap (λ (opened : Kind × List ℕ). opened.1) c.self.view_is
