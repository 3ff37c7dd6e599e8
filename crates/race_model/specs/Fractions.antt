-- Exact numbers as fractions in lowest terms, and rounded to thousandths.
-- Source: an average roll is worth 49/6 pips, doubles counted fourfold (the GNU
-- Backgammon manual, on effective pip counts); the rest is this project's profile.
use Rattle.std.specs.Prelude.{◌≡◌, ℕ, ◌+◌, ◌*◌, ◌<◌, ◌≤◌}
use Rattle.std.specs.Int.{IsGcd}
use Rattle.race_model.specs.LocalEquations.{whole}

-- n / d is a / b in lowest terms: only 1 divides both n and d
pub record IsFraction (a b n d : ℕ) : Type 0 where
  pub same : n * b ≡ a * d
  pub positive : 0 < d
  pub lowest : IsGcd n d 1

-- n / d is the mean number of rolls, for a total over 36 ^ 22
abbrev pub IsMean : ℕ → ℕ → ℕ → Type 0
IsMean total n d = IsFraction total whole n d

-- n / d is the effective pip count: 49/6 of the mean
abbrev pub IsEffectivePips : ℕ → ℕ → ℕ → Type 0
IsEffectivePips total n d = IsFraction (49 * total) (6 * whole) n d

-- q thousandths are nearest to n / d, and a half is rounded
-- up: (2 * q - 1) * d ≤ 2000 * n < (2 * q + 1) * d
pub record IsThousandths (n d q : ℕ) : Type 0 where
  pub not_over : 2 * q * d ≤ 2000 * n + d
  pub not_under : 2000 * n < (2 * q + 1) * d
