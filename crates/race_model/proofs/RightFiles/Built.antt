-- Two built files of one bound agree on every number, since their books do.
use Rattle.std.proofs.Common.{ℕ, List, refl, sym, ◌∙◌, le_trans, le_of_eq}
use Rattle.race_model.specs.Prelude.{Version, book_of, recorded_in, IsBuilt, HasSameNumbers}
use Rattle.race_model.proofs.Books.Kinds.{HasBestPlays}
use Rattle.race_model.proofs.Books.OneBook.{one_book}
use Rattle.race_model.proofs.RightFiles.Right.{right_of_local}

-- of the plays to a least mean the one of lowest rank is recorded
pub built_best : (version : Version) (bound : ℕ) (f : List ℕ) → IsBuilt version bound f →
    HasBestPlays (book_of f)
built_best version bound f built x at low v is =
    let here = (built.local.at_each x at low).means in
    let to = here.played v is in
    record {
      reached = (recorded_in (book_of f) x v, to.legal, to.ranked);
      least = here.best v is;
      lowest = built.lowest x at (le_trans low (le_of_eq built.bound_is)) v is;
    }

-- two built files of one bound hold the same numbers
pub built_same : (one other : Version) (bound : ℕ) (f g : List ℕ) → IsBuilt one bound f →
    IsBuilt other bound g → HasSameNumbers f g
built_same one other bound f g built_f built_g =
    one_book (book_of f) (book_of g) (right_of_local f built_f.local).book
    (right_of_local g built_g.local).book (built_f.bound_is ∙ sym built_g.bound_is) refl
    (built_best one bound f built_f) (built_best other bound g built_g)
