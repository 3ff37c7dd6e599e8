-- What a throw may lead to: a position with no more pips,
-- and with fewer where there was a checker left.
use Rattle.std.proofs.Common.{◌≡◌, ◌⊎◌, inl, inr, ⊎_elim, ℕ, ◌<◌, ◌≤◌, List, [], ◌∷◌, replicate}
use Rattle.std.proofs.Common.{refl, ap, sym, subst, ◌∙◌, arith, le_refl, le_trans, le_of_lt}
use Rattle.std.proofs.Common.{lt_of_le_of_lt}
use Rattle.race_model.specs.Prelude.{Board, IsPosition, IsFinished, checkers, pips, finished, Die, Throw, Step, Run}
use Rattle.race_model.specs.Prelude.{Legal, in_order, in_reverse, double}
use Rattle.race_model.proofs.Numbers.Sums.{zeros_of_sum}
use Rattle.race_model.proofs.Plays.Steps.{playable, fewer_pips, to_position}
use Rattle.race_model.proofs.Dice.Faces.{same_die}

-- a position is finished or not
pub finished_or_not : (x : Board) → IsFinished x ⊎ (¬ IsFinished x)
finished_or_not x = decide (checkers x)
  where
    decide : (n : ℕ) → (n ≡ 0) ⊎ (¬ (n ≡ 0))
    decide n = grind arith

-- a finished position is the one that has six empty points
pub only_finished : (x : Board) → IsPosition x → IsFinished x → x ≡ finished
only_finished x at none = zeros_of_sum x none ∙ ap (λ n. replicate n 0) at.six

-- a run leads from a position to a position
pub run_to_position : (dice : List Die) (x y : Board) → IsPosition x → Run x dice y → IsPosition y
run_to_position [] x y at run = subst IsPosition (sym run) at
run_to_position (d ∷ dice) x y at run = ⊎_elim
    (λ still. subst IsPosition (sym still.1) at)
    (λ goes. run_to_position dice goes.1.0 y (to_position x d goes.1.0 at goes.1.1.0) goes.1.1.1)
    run

-- a run takes no pips back
pub run_pips : (dice : List Die) (x y : Board) → Run x dice y → pips y ≤ pips x
run_pips [] x y run = subst (λ z. pips z ≤ pips x) (sym run) (le_refl (pips x))
run_pips (d ∷ dice) x y run = ⊎_elim
    (λ still. subst (λ z. pips z ≤ pips x) (sym still.1) (le_refl (pips x)))
    (λ goes.
    le_trans (run_pips dice goes.1.0 y goes.1.1.1)
    (le_of_lt (fewer_pips x d goes.1.0 goes.1.1.0)))
    run

-- a run of a die or more takes a pip while a checker is left
pub run_fewer_pips : (d : Die) (dice : List Die) (x y : Board) → ¬ IsFinished x →
    Run x (d ∷ dice) y → pips y < pips x
run_fewer_pips d dice x y unfinished run = ⊎_elim
    (λ still. absurd (unfinished still.0))
    (λ goes.
    lt_of_le_of_lt (run_pips dice goes.1.0 y goes.1.1.1) (fewer_pips x d goes.1.0 goes.1.1.0))
    run

-- from the finished position a run leads nowhere else
pub run_finished : (dice : List Die) (x y : Board) → IsFinished x → Run x dice y → y ≡ x
run_finished [] x y none run = run
run_finished (d ∷ dice) x y none run = ⊎_elim (λ still. still.1) (λ goes. absurd (goes.0 none)) run

-- from the finished position each run leads to itself
pub run_stays : (dice : List Die) (x : Board) → IsFinished x → Run x dice x
run_stays [] x none = refl
run_stays (d ∷ dice) x none = inl (none, refl)

-- each run leads somewhere
pub run_somewhere : (dice : List Die) (x : Board) → (y : Board) × Run x dice y
run_somewhere [] x = (x, refl)
run_somewhere (d ∷ dice) x =
    ⊎_elim (λ none. (x, inl (none, refl)))
    (λ unfinished. further unfinished (playable x d unfinished) (run_somewhere dice))
    (finished_or_not x)
  where
    further : ¬ IsFinished x → (z : Board) × Step x d z →
        ((z : Board) → (y : Board) × Run z dice y) → (y : Board) × Run x (d ∷ dice) y
    further unfinished (z, goes) rest = ((rest z).0, inr (unfinished, (z, (goes, (rest z).1))))

-- a throw leads to a position
pub legal_position : (x : Board) (v : Throw) (y : Board) → IsPosition x → Legal x v y →
    IsPosition y
legal_position x v y at (in_order _ run) = run_to_position (v.first ∷ v.second ∷ []) x y at run
legal_position x v y at (in_reverse _ run) = run_to_position (v.second ∷ v.first ∷ []) x y at run
legal_position x v y at (double _ run) =
    run_to_position (v.first ∷ v.first ∷ v.first ∷ v.first ∷ []) x y at run

-- a throw takes no pips back
pub legal_pips : (x : Board) (v : Throw) (y : Board) → Legal x v y → pips y ≤ pips x
legal_pips x v y (in_order _ run) = run_pips (v.first ∷ v.second ∷ []) x y run
legal_pips x v y (in_reverse _ run) = run_pips (v.second ∷ v.first ∷ []) x y run
legal_pips x v y (double _ run) = run_pips (v.first ∷ v.first ∷ v.first ∷ v.first ∷ []) x y run

-- a throw takes a pip while a checker is left
pub legal_fewer_pips : (x : Board) (v : Throw) (y : Board) → ¬ IsFinished x → Legal x v y →
    pips y < pips x
legal_fewer_pips x v y unfinished (in_order _ run) =
    run_fewer_pips v.first (v.second ∷ []) x y unfinished run
legal_fewer_pips x v y unfinished (in_reverse _ run) =
    run_fewer_pips v.second (v.first ∷ []) x y unfinished run
legal_fewer_pips x v y unfinished (double _ run) =
    run_fewer_pips v.first (v.first ∷ v.first ∷ v.first ∷ []) x y unfinished run

-- from the finished position a throw leads nowhere else
pub legal_finished : (x : Board) (v : Throw) (y : Board) → IsFinished x → Legal x v y → y ≡ x
legal_finished x v y none (in_order _ run) = run_finished (v.first ∷ v.second ∷ []) x y none run
legal_finished x v y none (in_reverse _ run) = run_finished (v.second ∷ v.first ∷ []) x y none run
legal_finished x v y none (double _ run) =
    run_finished (v.first ∷ v.first ∷ v.first ∷ v.first ∷ []) x y none run

-- a run of each throw is a legal play of it
pub legal_run : (x : Board) (v : Throw) → ((dice : List Die) → (y : Board) × Run x dice y) →
    (y : Board) × Legal x v y
legal_run x v run = ⊎_elim
    (λ same.
    let there = run (v.first ∷ v.first ∷ v.first ∷ v.first ∷ []) in
    (there.0, double same there.1))
    (λ apart. let there = run (v.first ∷ v.second ∷ []) in (there.0, in_order apart there.1))
    (same_die v.first v.second)

-- each throw leads somewhere
pub legal_somewhere : (x : Board) (v : Throw) → (y : Board) × Legal x v y
legal_somewhere x v = legal_run x v (λ dice. run_somewhere dice x)

-- from the finished position each throw leads to itself
pub legal_stays : (x : Board) (v : Throw) → IsFinished x → Legal x v x
legal_stays x v none = ⊎_elim
    (λ same. double same (run_stays (v.first ∷ v.first ∷ v.first ∷ v.first ∷ []) x none))
    (λ apart. in_order apart (run_stays (v.first ∷ v.second ∷ []) x none))
    (same_die v.first v.second)
