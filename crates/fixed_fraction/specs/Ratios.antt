-- Fractions as contracts see them.
use Prim.Native.Nat.{◌∣◌}
use Rattle.std.specs.Prelude.{◌≡◌, ℕ, ◌*◌, ◌<◌, ◌≤◌}
use Rattle.std.specs.Int.{IsGcd}
use Rattle.race_model.specs.Prelude.{whole}

-- a numerator over a denominator
pub record Ratio : Type 0 where
  pub numerator : ℕ
  pub denominator : ℕ

-- in lowest terms, of a denominator of 1 to 6 * 36 ^ 22, and at most 180
pub record IsSmallRatio (ratio : Ratio) : Type 0 where
  pub positive : 0 < ratio.denominator
  pub short : ratio.denominator ≤ 6 * whole
  pub within : ratio.numerator ≤ 180 * ratio.denominator
  pub lowest : IsGcd ratio.numerator ratio.denominator 1

-- n and d are a and b divided by a common factor
pub record IsDivided (a b n d : ℕ) : Type 0 where
  pub factor : ℕ
  pub over : factor * n ≡ a
  pub under : factor * d ≡ b

-- a number divides not both n and d
abbrev pub AreApart : ℕ → ℕ → ℕ → Type 0
AreApart p n d = ¬ ((p ∣ n) × (p ∣ d))
