-- Thousandths of a fraction in lowest terms.
use Rattle.std.proofs.Common.{◌≡◌, ℕ, ◌+◌, ◌*◌, ◌<◌, ◌≤◌, arith}
use Rattle.std.proofs.Math.Nat.{mul-le-mul_right, le_of_mul-le-mul_right}
use Rattle.std.proofs.Math.Nat.{lt_of_mul-lt-mul_right, mul-lt-mul_of_pos_right}
use Rattle.race_model.specs.Prelude.{IsThousandths}

-- thousandths nearest to a number are nearest to the same number in lowest terms
pub same_thousandths : (a b n d q : ℕ) → n * b ≡ a * d → 0 < b → 0 < d → IsThousandths a b q →
    IsThousandths n d q
same_thousandths a b n d q same some positive is = record {
  not_over = le_of_mul-le-mul_right {k = b} over some;
  not_under = lt_of_mul-lt-mul_right b under;
}
  where
    over : 2 * q * d * b ≤ (2000 * n + d) * b
    over = omega (arith, mul-le-mul_right d is.not_over, same)

    under : 2000 * n * b < (2 * q + 1) * d * b
    under = omega (arith, mul-lt-mul_of_pos_right is.not_under positive, same)
