-- What is known of an open database is known as such, and not only that it is so.
use Rattle.std.proofs.Common.{⊎_elim, ℕ, zero, suc, ◌≤◌, List, ◌≡◌}
use Rattle.std.proofs.Math.Bridge.{le_prop}
use Rattle.std.proofs.Math.Nat.{ℕ_set}
use mathlib.Core.Logic.{∥∥₁_elim, ∥∥₁_map}
use Rattle.race_model.specs.Prelude.{Board, Throw, Legal, Book, whole_in, HasShareOver, IsLocalOver, whole}
use Rattle.race_model.specs.Prelude.{IsLocalDatabase, IsFile, book_of, layout_of, version_of, Layout, IsFileBy}
use Rattle.race_model.specs.Prelude.{IsRightDatabase, IsRightBoard, board_layout, board_book, IsLocalBoard}
use Rattle.race_model.proofs.FirstFaults.Decisions.{legal_or_not, lists_same_or_not}
use Rattle.race_model.proofs.RightFiles.Right.{right_of_local, local_of_right}
use Rattle.race_model.proofs.Books.Boards.{right_board, local_board}
use Rattle.db_layout.specs.declared.stated.Kind.{Kind}
use Rattle.db_layout.specs.declared.stated.Kind.TheVariants.{Database as OfDatabase, Board as OfBoard}
use Rattle.epc_query.specs.declared.opened.Accepted.{Accepted}
use Rattle.epc_query.specs.Kinds.{IsAcceptedAs, IsRightAs}

-- that a throw leads to a position can be looked up
legal_known : (x : Board) (v : Throw) (y : Board) → ∥ Legal x v y ∥₁ → Legal x v y
legal_known x v y known =
    ⊎_elim (λ held. held)
    (λ none. absurd (∥∥₁_elim known (λ a b. absurd a) none)) (legal_or_not x v y)

-- so the equations of a position are known as such, by any book
pub equations_known : (over : ℕ) (f : Book) (x : Board) → ∥ IsLocalOver over f x ∥₁ →
    IsLocalOver over f x
equations_known over f x known = record {
  means = record {
    played = λ v is. record {
      ranked = ∥∥₁_elim known (ℕ_set _ _) (λ here. (here.means.played v is).ranked);
      legal = legal_known x v _ (∥∥₁_map known (λ here. (here.means.played v is).legal));
    };
    best = λ v is z legal. ∥∥₁_elim known le_prop (λ here. here.means.best v is z legal);
    mean_is = record {
      at_end = λ done. ∥∥₁_elim known (ℕ_set _ _) (λ here. here.means.mean_is.at_end done);
      before = λ left. ∥∥₁_elim known (ℕ_set _ _) (λ here. here.means.mean_is.before left);
    };
  };
  shares = share;
} where
  share : (k : ℕ) → k ≤ suc f.further → HasShareOver over f x k
  share zero few = (
    λ done. ∥∥₁_elim known (ℕ_set _ _) (λ here. (here.shares zero few).0 done),
    λ left. ∥∥₁_elim known (ℕ_set _ _) (λ here. (here.shares zero few).1 left),
  )
  share (suc k) few = (
    λ done. ∥∥₁_elim known (ℕ_set _ _) (λ here. (here.shares (suc k) few).0 done),
    λ left. ∥∥₁_elim known (ℕ_set _ _) (λ here. (here.shares (suc k) few).1 left),
  )

-- the equations of a file are known as such
local_known : (f : List ℕ) → IsFile f → ∥ IsLocalDatabase f ∥₁ → IsLocalDatabase f
local_known f file known = record {
  file = file;
  written = λ x at low. tt;
  at_each =
      λ x at low.
      equations_known whole (book_of f) x (∥∥₁_map known (λ local. local.at_each x at low));
}

-- that a file whose equations are known is right is known as such
pub right_known : (f : List ℕ) → IsFile f → ∥ IsRightDatabase f ∥₁ → IsRightDatabase f
right_known f file known =
    right_of_local f (local_known f file (∥∥₁_map known (λ right. local_of_right f right)))

-- that two lists of numbers are the same can be looked up
list_known : (xs ys : List ℕ) → ∥ xs ≡ ys ∥₁ → xs ≡ ys
list_known xs ys known =
    ⊎_elim (λ same. same)
    (λ apart. absurd (∥∥₁_elim known (λ a b. absurd a) (λ same. apart same)))
    (lists_same_or_not xs ys)

-- that the bytes are a file of a layout is known as such
pub file_known : (layout : Layout) (f : List ℕ) → ∥ IsFileBy layout f ∥₁ → IsFileBy layout f
file_known layout f known = record {
  bounded = ∥∥₁_elim known le_prop (λ file. file.bounded);
  headed = list_known _ _ (∥∥₁_map known (λ file. file.headed));
  whole = ∥∥₁_elim known (ℕ_set _ _) (λ file. file.whole);
}

-- so are its local equations
local_board_known : (f : List ℕ) → ∥ IsLocalBoard f ∥₁ → IsLocalBoard f
local_board_known f known = record {
  file = file_known board_layout f (∥∥₁_map known (λ local. local.file));
  written = λ x at low. record {
    mean = ∥∥₁_elim known le_prop (λ local. (local.written x at low).mean);
    counts = λ k few over most. ∥∥₁_elim known le_prop
        (λ local. (local.written x at low).counts k few over most);
  };
  at_each = λ x at low.
      equations_known (whole_in (board_book f)) (board_book f) x
      (∥∥₁_map known (λ local. local.at_each x at low));
}

-- that a board file is right is known as such
pub right_board_known : (f : List ℕ) → ∥ IsRightBoard f ∥₁ → IsRightBoard f
right_board_known f known =
    right_board f (local_board_known f (∥∥₁_map known (λ right. local_board f right)))

-- that a file is a right database is known as such, and not only that it is so
pub right_database_known : (f : List ℕ) → ∥ IsRightDatabase f ∥₁ → IsRightDatabase f
right_database_known f known =
    right_known f
    (file_known (layout_of (version_of f)) f (∥∥₁_map known (λ right. right.file))) known

-- what is kept of a file of either kind is known as such
pub accepted_known : (kind : Kind) (f : List ℕ) (kept : Accepted) → ∥ IsAcceptedAs kind f kept ∥₁ →
    IsAcceptedAs kind f kept
accepted_known kind f kept known = record {
  right = right kind (∥∥₁_map known (λ held. held.right));
  version = ∥∥₁_elim known (ℕ_set _ _) (λ held. held.version);
  bound = ∥∥₁_elim known (ℕ_set _ _) (λ held. held.bound);
} where
  right : (kind : Kind) → ∥ IsRightAs kind f ∥₁ → IsRightAs kind f
  right OfDatabase known = right_database_known f known
  right OfBoard known = right_board_known f known
