-- How large totals and counts are: of each sequence of m throws a strategy takes at most m, and of
-- all sequences of k throws at most all end its game.
use Rattle.std.proofs.Common.{◌≡◌, ℕ, zero, suc, ◌+◌, ◌*◌, ◌^◌, ◌≤◌, ap, ◌∙◌, arith}
use Rattle.std.proofs.Math.Nat.{pow-succ', one-le-pow}
use Rattle.race_model.specs.Prelude.{Board, Strategy, stop, turn, total_over, IsLeastIn, endings}
use Rattle.race_model.proofs.RightFiles.Bounded.{throws_at_most}
use Rattle.race_model.proofs.Strategies.Histories.{over-none, total_over-over, total_over-turn}
use Rattle.race_model.proofs.Strategies.Totals.{total_over-stop}
use Rattle.race_model.proofs.Books.Endings.{endings-stop, endings-stop_more, endings-turn_none, endings-turn}

-- no roll over the sequence of no throw
total_over-none : (s : Strategy) → total_over 0 s ≡ 0
total_over-none s = total_over-over 0 s ∙ over-none s (λ k. k)

-- the total over all sequences of m throws
pub total_over-most : (m : ℕ) (s : Strategy) → total_over m s ≤ m * 36 ^ m
total_over-most m stop = omega (arith, total_over-stop m)
total_over-most zero (turn to next) = omega (arith, total_over-none (turn to next))
total_over-most (suc m) (turn to next) =
    omega (
      arith,
      total_over-turn m to next,
      throws_at_most (λ v. total_over m (next v)) (m * 36 ^ m) (λ v. total_over-most m (next v)),
      more m (36 ^ m) (36 ^ suc m) (pow-succ' 36 m),
    )
  where
    more : (m p q : ℕ) → q ≡ 36 * p → suc m * q ≡ q + 36 * (m * p)
    more m p q e = ap (λ n. suc m * n) e ∙ omega (arith, e)

-- the least total over all sequences of m throws
pub least_in-most : (m : ℕ) (x : Board) (t : ℕ) → IsLeastIn m x t → t ≤ m * 36 ^ m
least_in-most m x t least =
    omega (arith, total_over-most m least.reached.0, least.reached.2)

-- the sequences of k throws that end the game
pub endings-most : (s : Strategy) (k : ℕ) → endings s k ≤ 36 ^ k
endings-most stop zero = omega (arith, endings-stop, one-le-pow 0 36 (omega arith))
endings-most stop (suc k) = omega (arith, endings-stop_more k)
endings-most (turn to next) zero = omega (arith, endings-turn_none to next)
endings-most (turn to next) (suc k) =
    omega (
      arith,
      endings-turn to next k,
      throws_at_most (λ v. endings (next v) k) (36 ^ k) (λ v. endings-most (next v) k),
      pow-succ' 36 k,
    )
