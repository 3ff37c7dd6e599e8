-- The best of some positions: what a throw or a run leads to has lower ranks, so the best goes by
-- the means of lower ranks alone, and at the end it is rank 0.
use Rattle.std.proofs.Common.{◌≡◌, ⊎_elim, ℕ, ◌*◌, ◌<◌, List, ◌∷◌, sym, ap, subst, ◌∙◌, arith}
use Rattle.std.proofs.Math.Nat.{eq_of_mul-eq-mul_left, mul-le-mul_left}
use Rattle.race_model.specs.Prelude.{Board, IsPosition, IsFinished, Die, Throw, Run, Legal, rank, IsBestOf, IsBestPlay}
use Rattle.race_model.proofs.Plays.Results.{finished_or_not, only_finished, run_to_position}
use Rattle.race_model.proofs.Plays.Results.{run_fewer_pips, run_finished, run_stays, legal_position}
use Rattle.race_model.proofs.Plays.Results.{legal_fewer_pips, legal_finished, legal_stays}
use Rattle.race_model.proofs.Ranks.RankOrder.{rank-fewer}
use Rattle.race_model.proofs.Ranks.PositionTotals.{rank-finished}

-- what a run of a die or more leads to from an unfinished position has a lower rank
pub run_lower : (d : Die) (dice : List Die) (x z : Board) → IsPosition x → ¬ IsFinished x →
    Run x (d ∷ dice) z → rank z < rank x
run_lower d dice x z at unfinished run =
    rank-fewer z x (run_to_position (d ∷ dice) x z at run) at
    (run_fewer_pips d dice x z unfinished run)

-- what a throw leads to from an unfinished position has a lower rank
pub legal_lower : (x : Board) (v : Throw) (z : Board) → IsPosition x → ¬ IsFinished x →
    Legal x v z → rank z < rank x
legal_lower x v z at unfinished legal =
    rank-fewer z x (legal_position x v z at legal) at (legal_fewer_pips x v z unfinished legal)

-- the best is the same by means that agree on what is reached
pub best-agree : (mean other : ℕ → ℕ) (Reached : Board → Type 0) (r : ℕ) →
    ((z : Board) → Reached z → mean (rank z) ≡ other (rank z)) → IsBestOf mean Reached r →
    IsBestOf other Reached r
best-agree mean other Reached r agree best =
    let here : mean r ≡ other r =
    subst (λ q. mean q ≡ other q) best.reached.2 (agree best.reached.0 best.reached.1) in
    record {
      reached = best.reached;
      least = λ z got.
          let le = best.least z got in
          let e = agree z got in
          omega arith;
      lowest = λ z got same. best.lowest z got (agree z got ∙ (same ∙ sym here));
    }

-- the best is the same by means that are multiples of others by one number
pub best-times : (mean other : ℕ → ℕ) (c : ℕ) (Reached : Board → Type 0) (r : ℕ) → 0 < c →
    ((z : Board) → Reached z → other (rank z) ≡ c * mean (rank z)) → IsBestOf mean Reached r →
    IsBestOf other Reached r
best-times mean other c Reached r some times best =
    let here : other r ≡ c * mean r =
    subst (λ q. other q ≡ c * mean q) best.reached.2 (times best.reached.0 best.reached.1) in
    record {
      reached = best.reached;
      least = λ z got.
          let le = mul-le-mul_left c (best.least z got) in
          let e = times z got in
          omega arith;
      lowest = λ z got same. best.lowest z got
          (eq_of_mul-eq-mul_left c some (mean (rank z)) (mean r) (sym (times z got) ∙ same ∙ here));
    }

-- there is one best
pub best-one : (mean : ℕ → ℕ) (x : Board) (v : Throw) (r q : ℕ) → IsBestPlay mean x v r →
    IsBestPlay mean x v q → r ≡ q
best-one mean x v r q first second =
    let there = ap mean second.reached.2 in
    let here = ap mean first.reached.2 in
    let a = first.least second.reached.0 second.reached.1 in
    let b = second.least first.reached.0 first.reached.1 in
    let low = first.lowest second.reached.0 second.reached.1 (omega arith) in
    let high = second.lowest first.reached.0 first.reached.1 (omega arith) in
    let at = second.reached.2 in
    let of = first.reached.2 in
    omega arith

-- where one position alone is reached, it is the best by any means
pub best-alone : (mean other : ℕ → ℕ) (Reached : Board → Type 0) (x : Board) (r : ℕ) →
    ((z : Board) → Reached z → z ≡ x) → IsBestOf mean Reached r → IsBestOf other Reached r
best-alone mean other Reached x r alone best =
    record {
      reached = best.reached;
      least = λ z got. let e = ap other (same z got) in omega arith;
      lowest = λ z got _. let e = same z got in omega arith;
    }
  where
    same : (z : Board) → Reached z → rank z ≡ r
    same z got =
        ap rank (alone z got)
        ∙ (sym (ap rank (alone best.reached.0 best.reached.1)) ∙ best.reached.2)

-- so the best after dice goes by the means of what an unfinished position leads to alone
pub run-agree_reached : (mean other : ℕ → ℕ) (d : Die) (dice : List Die) (x : Board) (r : ℕ) →
    (¬ IsFinished x → (z : Board) → Run x (d ∷ dice) z → mean (rank z) ≡ other (rank z)) →
    IsBestOf mean (Run x (d ∷ dice)) r → IsBestOf other (Run x (d ∷ dice)) r
run-agree_reached mean other d dice x r agree best = ⊎_elim
    (λ none. best-alone mean other (Run x (d ∷ dice)) x r
    (λ z run. run_finished (d ∷ dice) x z none run) best)
    (λ unfinished. best-agree mean other (Run x (d ∷ dice)) r (agree unfinished) best)
    (finished_or_not x)

-- the best play goes by the means of what an unfinished position leads to alone
pub play-agree_reached : (mean other : ℕ → ℕ) (x : Board) (v : Throw) (r : ℕ) →
    (¬ IsFinished x → (z : Board) → Legal x v z → mean (rank z) ≡ other (rank z)) →
    IsBestPlay mean x v r → IsBestPlay other x v r
play-agree_reached mean other x v r agree best = ⊎_elim
    (λ none. best-alone mean other (Legal x v) x r
    (λ z legal. legal_finished x v z none legal) best)
    (λ unfinished. best-agree mean other (Legal x v) r (agree unfinished) best)
    (finished_or_not x)

-- the finished position has rank 0
pub rank-finished_position : (x : Board) → IsPosition x → IsFinished x → rank x ≡ 0
rank-finished_position x at none = ap rank (only_finished x at none) ∙ rank-finished

-- where it alone is reached, the best is rank 0
pub best-at_end : (mean : ℕ → ℕ) (Reached : Board → Type 0) (x : Board) → IsPosition x →
    IsFinished x → Reached x → ((z : Board) → Reached z → z ≡ x) → IsBestOf mean Reached 0
best-at_end mean Reached x at none stays alone =
    record {
      reached = (x, stays, rank-finished_position x at none);
      least = λ z got. let e = ap mean (zero z got) in omega arith;
      lowest = λ z got _. omega arith;
    }
  where
    zero : (z : Board) → Reached z → rank z ≡ 0
    zero z got = ap rank (alone z got) ∙ rank-finished_position x at none

-- where the finished position alone is reached, the best after dice is rank 0
pub run-at_end : (mean : ℕ → ℕ) (dice : List Die) (x : Board) → IsPosition x → IsFinished x →
    IsBestOf mean (Run x dice) 0
run-at_end mean dice x at none =
    best-at_end mean (Run x dice) x at none (run_stays dice x none)
    (λ z run. run_finished dice x z none run)

-- where the finished position alone is reached, the best with a throw is rank 0
pub play-at_end : (mean : ℕ → ℕ) (x : Board) (v : Throw) → IsPosition x → IsFinished x →
    IsBestPlay mean x v 0
play-at_end mean x v at none =
    best-at_end mean (Legal x v) x at none (legal_stays x v none)
    (λ z legal. legal_finished x v z none legal)
