-- The best play among the results of a throw, of which there is one.
use Rattle.std.proofs.Common.{◌≡◌, ℕ, suc, ◌<◌, ◌≤◌, ◌↔◌, List, All, Any, Contains, ap, ◌∙◌, arith, slice_index}
use Rattle.race_model.specs.Prelude.{Board, IsPosition, IsFinished, pips, Throw, Legal, rank, first_of, IsBestPlay}
use Rattle.race_model.proofs.Numbers.Members.{member_of_all, some_member}
use Rattle.race_model.proofs.Plays.Results.{legal_position, legal_fewer_pips, legal_finished}
use Rattle.race_model.proofs.Ranks.RankOrder.{rank_within, first_of-rises, first_of-suc}
use Rattle.race_model.proofs.Ranks.BestPlays.{rank-finished_position}

-- the best of the results is the best play
pub best-of_results : (means : List ℕ) (x : Board) (v : Throw) (r : ℕ) (found : List Board) →
    ((y : List ℕ) → Contains found y ↔ Legal x v y) → Any (λ z. rank z ≡ r) found →
    All (λ z. slice_index means r ≤ slice_index means (rank z)) found →
    All (λ z. slice_index means (rank z) ≡ slice_index means r → r ≤ rank z) found →
    IsBestPlay (slice_index means) x v r
best-of_results means x v r found members some least lowest =
    let best = some_member (λ z. rank z ≡ r) found some in
    record {
      reached = (best.0, (members best.0).0 best.1, best.2);
      least =
          λ z legal.
          member_of_all (λ z. slice_index means r ≤ slice_index means (rank z)) found z least
          ((members z).1 legal);
      lowest =
          λ z legal.
          member_of_all (λ z. slice_index means (rank z) ≡ slice_index means r → r ≤ rank z) found
          z lowest ((members z).1 legal);
    }

-- the results from an unfinished position have the ranks of fewer pips
pub legal-below : (x : Board) (v : Throw) (z : Board) → IsPosition x → ¬ IsFinished x →
    Legal x v z → rank z < first_of (pips x)
legal-below x v z at unfinished legal =
    let fewer = legal_fewer_pips x v z unfinished legal in
    let within = (rank_within z (legal_position x v z at legal)).1 in
    let rises = first_of-rises (suc (pips z)) (pips x) fewer in
    omega (arith, within, rises, first_of-suc (pips z))

-- the finished position stays, at rank 0
pub finished-stays : (x : Board) (v : Throw) (z : Board) → IsPosition x → IsFinished x →
    Legal x v z → rank z ≡ 0
finished-stays x v z at none legal =
    ap rank (legal_finished x v z none legal) ∙ rank-finished_position x at none
