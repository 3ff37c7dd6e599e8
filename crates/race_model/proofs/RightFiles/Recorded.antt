-- What a recorded play leads to: a position of lower rank, so one that the file records.
use Rattle.std.proofs.Common.{◌≡◌, ℕ, ◌<◌, ◌≤◌, List}
use Rattle.std.proofs.Common.{ap, sym, subst, ◌∙◌, le_trans}
use Rattle.race_model.specs.Prelude.{Board, IsPosition, IsFinished, pips, Throw, rank, count_to, play, recorded}
use Rattle.race_model.specs.Prelude.{IsPlayed}
use Rattle.race_model.proofs.Plays.Results.{legal_position, legal_pips, legal_fewer_pips, legal_finished, only_finished}
use Rattle.race_model.proofs.Ranks.RankOrder.{rank_bound, rank-fewer}
use Rattle.race_model.proofs.Ranks.PositionTotals.{rank-finished}

-- a position with no more pips
pub recorded_position : (f : List ℕ) (x : Board) (v : Throw) → IsPosition x → IsPlayed f x v →
    IsPosition (recorded f x v) × (pips (recorded f x v) ≤ pips x)
recorded_position f x v at played = (
  legal_position x v (recorded f x v) at played.legal,
  legal_pips x v (recorded f x v) played.legal,
)

-- its rank is under the count of each bound that the position keeps
pub recorded_under : (f : List ℕ) (x : Board) (v : Throw) (bound : ℕ) → IsPosition x →
    pips x ≤ bound → IsPlayed f x v → play f x v < count_to bound
recorded_under f x v bound at low played =
    let there = recorded_position f x v at played in
    subst (λ r. r < count_to bound) played.ranked
    ((rank_bound (recorded f x v) bound there.0).1 (le_trans there.1 low))

-- and lower than that of the position, while a checker is left
pub recorded_lower : (f : List ℕ) (x : Board) (v : Throw) → IsPosition x → ¬ IsFinished x →
    IsPlayed f x v → play f x v < rank x
recorded_lower f x v at unfinished played =
    let there = recorded_position f x v at played in
    subst (λ r. r < rank x) played.ranked
    (rank-fewer (recorded f x v) x there.0 at
    (legal_fewer_pips x v (recorded f x v) unfinished played.legal))

-- the finished position records itself
pub recorded_at_end : (f : List ℕ) (x : Board) (v : Throw) → IsPosition x → IsFinished x →
    IsPlayed f x v → play f x v ≡ 0
recorded_at_end f x v at none played =
    sym played.ranked
    ∙ ap rank (legal_finished x v (recorded f x v) none played.legal ∙ only_finished x at none)
    ∙ rank-finished
