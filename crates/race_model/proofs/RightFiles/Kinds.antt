-- The kind of a file is that of its header, so a right file is a right database or board file.
use Rattle.std.proofs.Common.{◌≡◌, ◌⊎◌, inl, inr, Bool, true, false, ℕ, ◌^◌, ◌<◌, ◌==◌, List}
use Rattle.std.proofs.Common.{refl, ap, sym, subst, ◌∙◌, arith}
use Rattle.race_model.specs.Prelude.{Version, full, compact, version_number, layout_of, version_of, board_layout}
use Rattle.race_model.specs.Prelude.{kind_by, kind_of, IsRightBy, IsRight, IsRightDatabase, IsRightBoard}
use Rattle.race_model.proofs.FirstFaults.HeaderFacts.{stated_number}

-- no version of a database is 3
other_number : (v : Version) → (version_number v == 3) ≡ false
other_number full = refl
other_number compact = refl

-- a right database is a right file
pub right_of_database : (f : List ℕ) → IsRightDatabase f → IsRight f
unfolding kind_of
right_of_database f right =
    subst (λ b. IsRightBy (kind_by b (version_of f)) f)
    (sym (ap (λ n. n == 3)
    (stated_number (layout_of (version_of f)) (fits (version_of f)) f right.file)
    ∙ other_number (version_of f)))
    right
  where
    fits : (v : Version) → version_number v < 2 ^ 16
    fits full = omega arith
    fits compact = omega arith

-- a right board file is a right file
pub right_of_board : (f : List ℕ) → IsRightBoard f → IsRight f
unfolding kind_of
right_of_board f right =
    subst (λ b. IsRightBy (kind_by b (version_of f)) f)
    (sym (ap (λ n. n == 3) (stated_number board_layout (omega arith) f right.file)))
    right

-- there are no others
pub either_right : (f : List ℕ) → IsRight f → IsRightDatabase f ⊎ IsRightBoard f
unfolding kind_of
either_right f right = by _ right
  where
    by : (b : Bool) → IsRightBy (kind_by b (version_of f)) f → IsRightDatabase f ⊎ IsRightBoard f
    by true right = inr right
    by false right = inl right
