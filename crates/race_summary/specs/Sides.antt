-- What a summary says of one player's checkers. Source: this project's profile.
use Rattle.std.specs.Prelude.{◌≡◌, ℕ, zero, suc, ◌+◌, ◌-◌, ◌*◌, ◌/◌, ◌^◌, ◌<◌, ◌≤◌, List, slice_index}
use Rattle.db_layout.specs.declared.stated.Kind.{Kind}
use Rattle.race_model.specs.Prelude.{Board, pips, mean_in, share_in, whole_in, IsFraction, IsThousandths}
use Rattle.epc_query.specs.Kinds.{book_by, rolls_in, scale_as}
use Rattle.epc_query.specs.declared.opened.Rounded.{Rounded}
use Rattle.race_summary.specs.declared.sides.Side.{Side}

-- the number a / b, exact and in thousandths
pub record IsRounded (a b : ℕ) (number : Rounded) : Type 0 where
  pub exact : IsFraction a b number.exact.numerator number.exact.denominator
  pub rounded : IsThousandths number.exact.numerator number.exact.denominator number.thousandths

-- how far two numbers are apart
abbrev pub apart : ℕ → ℕ → ℕ
apart a b = (a - b) + (b - a)

-- the squares of how far so many numbers of rolls are from a mean, each as often as its share: in
-- thousandths of a roll, shares over 36 ^ 33 in whole numerators over 36 ^ 11
abbrev pub squares : ℕ → List ℕ → ℕ → ℕ
squares mean shares zero = 0
squares mean shares (suc k) = squares mean shares k
    + slice_index shares k / 36 ^ 22 * apart (1000 * k) mean * apart (1000 * k) mean

-- the variance of 34 shares about a mean, in squared thousandths of a roll
abbrev pub variance : ℕ → List ℕ → ℕ
variance mean shares = squares mean shares 34 / 36 ^ 11

-- r is nearest to the square root of v
pub record IsRoot (v r : ℕ) : Type 0 where
  pub not_over : (2 * r - 1) * (2 * r - 1) ≤ 4 * v
  pub not_under : 4 * v < (2 * r + 1) * (2 * r + 1)

-- what a summary says of a position is what an opened file says of it
pub record IsSide (opened : Kind × List ℕ) (x : Board) (side : Side) : Type 0 where
  pub position : side.position ≡ x
  pub rolls : IsRounded (mean_in (book_by opened) x) (whole_in (book_by opened)) side.rolls
  pub epc : IsRounded (49 * mean_in (book_by opened) x) (6 * whole_in (book_by opened)) side.epc
  pub wastage : side.wastage ≡ side.epc.thousandths - 1000 * pips x
  pub deviation : (mean : ℕ) → mean ≡ side.rolls.thousandths → mean ≤ 33000
      → IsRoot (variance mean side.shares) side.deviation
  pub shares : (k : ℕ) → k ≤ rolls_in (book_by opened)
      → slice_index side.shares k ≡ scale_as opened.0 * share_in (book_by opened) x k
