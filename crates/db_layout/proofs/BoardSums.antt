-- Sums of what the plays of a position lead to, where the records of lower rank meet their
-- equations.
use Rattle.std.proofs.Common.{◌≡◌, ℕ, zero, suc, ◌+◌, ◌-◌, ◌*◌, ◌^◌, ◌<◌, ◌≤◌, List, sym, ap, ◌∙◌, arith}
use Rattle.std.proofs.Math.Nat.{pow-suc}
use Rattle.race_model.specs.Prelude.{Board, IsPosition, IsFinished, pips, Throw, roll_at, roll_index, weighted, Legal}
use Rattle.race_model.specs.Prelude.{rank, most_rolls, EndsIn, board_book, count_at}
use Rattle.race_model.proofs.Dice.RollSums.{roll_index-range}
use Rattle.race_model.proofs.Plays.Results.{legal_position}
use Rattle.race_model.proofs.Ranks.RankOrder.{pips-range}
use Rattle.race_model.proofs.Strategies.Horizons.{ends_in_most, most_rolls-board}
use Rattle.race_model.proofs.Books.Bounded.{mean-at_most, mean-multiple, weighted-at_most, weighted-multiples}
use Rattle.db_layout.specs.LowerRecords.{AreLocalTo, AreBelow, AreResults, board_mean}
use Rattle.db_layout.proofs.KnownRecords.{meets-below, count-most}

module _ (f : List ℕ) (n : ℕ) (few : n ≤ 54264) (local : AreLocalTo f n) (plays : ℕ → ℕ)
    (below : AreBelow plays n) where
  -- counts add up to at most all sequences of one throw more
  pub counts-most : (k : ℕ) → k ≤ 33 →
      weighted (λ v. count_at f (plays (roll_index v)) k) ≤ 36 ^ suc k
  counts-most k le =
      omega (
        arith,
        weighted-at_most (λ v. count_at f (plays (roll_index v)) k) (36 ^ k)
            (λ v. count-most f n few local (plays (roll_index v))
            (below (roll_index v) (roll_index-range v)) k le),
        pow-suc 36 k,
      )

  -- there is a mean of one roll and a 36th of the sum
  module _ (x : Board) (at : IsPosition x) (unfinished : ¬ IsFinished x)
      (results : AreResults x plays) where
    abbrev means : Throw → ℕ
    means v = board_mean f (plays (roll_index v))

    -- what a roll leads to
    abbrev after : Throw → Board
    after v = (results (roll_index v) (roll_index-range v)).0

    legal : (v : Throw) → Legal x (roll_at (roll_index v)) (after v)
    legal v = (results (roll_index v) (roll_index-range v)).1

    ranked : (v : Throw) → rank (after v) ≡ plays (roll_index v)
    ranked v = (results (roll_index v) (roll_index-range v)).2

    after-is : (v : Throw) → IsPosition (after v)
    after-is v = legal_position x (roll_at (roll_index v)) (after v) at (legal v)

    under : (v : Throw) → rank (after v) < n
    under v = omega (arith, ranked v, below (roll_index v) (roll_index-range v))

    by : (m : ℕ) → m ≤ 33 → EndsIn m x →
        (mean : ℕ) × (mean ≤ 33 * 36 ^ 33) × (36 * mean ≡ 36 * 36 ^ 33 + weighted means)
    by zero most ends = absurd (unfinished ends)
    by (suc m) most ends = (36 ^ 33 + weighted parts, omega (arith, sum, small), omega (arith, sum))
      where
        each : (v : Throw) → EndsIn m (after v)
        each v = ends unfinished (roll_at (roll_index v)) (after v) (legal v)

        multiple : (v : Throw) → (q : ℕ) × (board_mean f (rank (after v)) ≡ q * 36 ^ suc (32 - m))
        multiple v =
            mean-multiple (board_book f) (count_at f) m (suc (32 - m)) (after v)
            (omega (arith, most)) (each v) (after-is v)
            (meets-below f n few local (after v) (after-is v) (under v))

        parts : Throw → ℕ
        parts v = (multiple v).0 * 36 ^ (32 - m)

        sum : weighted means ≡ weighted parts * 36
        sum = weighted-multiples means parts 36 (λ v.
            ap (board_mean f) (sym (ranked v)) ∙ (multiple v).1
            ∙ ap (λ k. (multiple v).0 * k) (pow-suc 36 (32 - m)) ∙ omega arith)

        small : weighted means ≤ 36 * (m * 36 ^ 33)
        small = weighted-at_most means (m * 36 ^ 33) (λ v.
            let le = mean-at_most (board_book f) (count_at f) m (after v) (each v) (after-is v)
            (meets-below f n few local (after v) (after-is v) (under v)) in
            omega (arith, le, ap (board_mean f) (ranked v)))

    pub mean-exists : (mean : ℕ) × (mean ≤ 33 * 36 ^ 33)
        × (36 * mean ≡ 36 * 36 ^ 33
        + weighted (λ v. board_mean f (plays (roll_index v))))
    mean-exists = by (most_rolls (pips x)) (most_rolls-board (pips x) (pips-range x at))
        (ends_in_most x at)
