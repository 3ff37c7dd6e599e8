-- What a right file records of a position of at most its bound.
use Rattle.std.proofs.Common.{◌≡◌, ℕ, ◌*◌, ◌<◌, ◌≤◌, List, sum, subst}
use Rattle.race_model.specs.Prelude.{Board, IsPosition, pips, at_rank, count_to, bound_of, record_at, mean, mean_at}
use Rattle.race_model.specs.Prelude.{whole, IsLocalDatabase, IsRightDatabase, IsRightAt, IsLeast}
use Rattle.race_model.proofs.RightFiles.Right.{local_of_right}
use Rattle.race_model.proofs.Ranks.RankOrder.{at_rank_position}
use Rattle.race_model.proofs.Ranks.PositionTotals.{at_rank_under}
use Rattle.certificate.specs.RecordNumbers.{shares_of}
use Rattle.certificate.proofs.Accepted.{accepted-mean, accepted-total}

module _ (f : List ℕ) (right : IsRightDatabase f) (x : Board) (position : IsPosition x)
    (within : pips x ≤ bound_of f) where
  -- the file meets the local equations
  pub known_local : IsLocalDatabase f
  known_local = local_of_right f right

  -- what is recorded of the position is right
  pub known_right : IsRightAt f x
  known_right = right.book x position within

  -- the recorded mean is the least
  pub known_least : IsLeast x (mean f x)
  known_least = known_right.least

  -- the recorded mean is within 22 rolls
  pub known_mean : mean f x ≤ 22 * whole
  known_mean = accepted-mean f known_local x position within

module _ (f : List ℕ) (right : IsRightDatabase f) (r : ℕ) (under : r < count_to (bound_of f)) where
  -- the recorded mean of a rank is within 22 rolls
  pub known_mean_at : mean_at f r ≤ 22 * whole
  known_mean_at =
      let at = at_rank_under (bound_of f) r under in
      subst (λ n. mean_at f n ≤ 22 * whole) at.0
      (known_mean f right (at_rank r) (at_rank_position r) at.1)

  -- the recorded shares of a rank add up to the whole
  pub known_total : sum (shares_of (record_at f r)) ≡ whole
  known_total =
      let at = at_rank_under (bound_of f) r under in
      subst (λ n. sum (shares_of (record_at f n)) ≡ whole) at.0
      (accepted-total f (local_of_right f right) (at_rank r) (at_rank_position r) at.1)
