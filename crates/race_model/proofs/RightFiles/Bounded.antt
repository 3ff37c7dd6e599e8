-- How large recorded numbers can be where the equations hold: no mean is over as many rolls as the
-- game can take.
use Rattle.std.proofs.Common.{ℕ, ◌*◌, ◌<◌, ◌≤◌, List, sum_by, ap, arith}
use Rattle.race_model.specs.Prelude.{Board, IsPosition, IsFinished, Throw, throws, rank, mean, book_of, recorded, whole}
use Rattle.race_model.specs.Prelude.{IsPlayed, HasLeastMean, EndsIn}
use Rattle.race_model.proofs.Numbers.Sums.{sum_by-at_most, sum_by-constant}
use Rattle.race_model.proofs.Dice.RollSums.{length-throws}
use Rattle.race_model.proofs.Plays.Results.{legal_position, legal_fewer_pips}
use Rattle.race_model.proofs.Ranks.RankOrder.{rank-fewer}
use Rattle.race_model.proofs.Books.Bounded.{mean-in_rolls}

-- the recorded position of a throw has a lower rank
pub recorded_lower : (f : List ℕ) (x : Board) (v : Throw) → IsPosition x → ¬ IsFinished x →
    IsPlayed f x v → rank (recorded f x v) < rank x
recorded_lower f x v at unfinished played =
    rank-fewer (recorded f x v) x (legal_position x v (recorded f x v) at played.legal) at
    (legal_fewer_pips x v (recorded f x v) unfinished played.legal)

-- a sum over the throws of numbers that are no greater than one
pub throws_at_most : (g : Throw → ℕ) (m : ℕ) → ((v : Throw) → g v ≤ m) → sum_by g throws ≤ 36 * m
throws_at_most g m small =
    omega (
      arith,
      sum_by-at_most g (λ v. m) throws small,
      sum_by-constant m throws,
      ap (λ n. m * n) length-throws,
    )

-- a mean is at most as many rolls as a game can take
pub mean_at_most : (f : List ℕ) (n : ℕ) (x : Board) → EndsIn n x → IsPosition x →
    ((z : Board) → IsPosition z → rank z ≤ rank x → HasLeastMean f z) → mean f x ≤ n * whole
mean_at_most f n x ends at local =
    mean-in_rolls whole (book_of f) n x ends at
    (λ z is le. record { played = (local z is le).played; mean_is = (local z is le).mean_is })
