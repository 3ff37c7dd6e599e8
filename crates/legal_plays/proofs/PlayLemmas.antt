-- The first play of some dice.
use Rattle.std.proofs.Common.{◌≡◌, ℕ, ◌-◌, ◌<◌, List, [], ◌∷◌, length, get_or, take, drop, ◌⊎◌, inl}
use Rattle.std.proofs.Common.{inr, sym, subst, arith}
use Rattle.std.proofs.lemmas.List.{take_all}
use Rattle.std.proofs.lemmas.Bool.{cases_lt}
use Rattle.race_model.specs.Prelude.{Board, IsFinished, Die, number, StepFrom, Run, Moves, IsFoundBefore, IsFirstOf}
use Rattle.race_model.proofs.Plays.PlayOrder.{one_step, moves_run}
use Rattle.legal_plays.specs.declared.moves.Move.{Move}
use Rattle.legal_plays.specs.MoveLists.{move_of, moves_of}
use Rattle.legal_plays.proofs.ReachLemmas.{run_finished}

-- no play is found before the one without moves
none_before_end : (others : List (ℕ × ℕ)) → ¬ IsFoundBefore others []
none_before_end [] before = before
none_before_end (n ∷ others) before = before

-- where no die or no checker is left, the play has no moves
pub first_at_end : (x : Board) (dice : List Die) (y : Board) →
    (length dice ≡ 0) ⊎ IsFinished x → y ≡ x → IsFirstOf x dice y []
first_at_end x [] y end same =
    record { leads = same; first = λ others _ before. none_before_end others before }
first_at_end x (d ∷ dice) y end same = record {
  leads = (elim end [ inl none ↦ absurd (omega arith) | inr done ↦ done ], same);
  first = λ others _ before. none_before_end others before;
}

-- and no run leads anywhere else
pub run_at_end : (x : Board) (dice : List Die) (y : Board) → (length dice ≡ 0) ⊎ IsFinished x →
    Run x dice y → y ≡ x
run_at_end x [] y end run = run
run_at_end x (d ∷ dice) y end run =
    elim end
    [ inl none ↦ absurd (omega arith) | inr done ↦ (run_finished x y (d ∷ dice) done).0 run ]

-- the first play begins with the highest move from which the
-- other dice lead on, and goes on with the first play of these
pub first_move : (x : Board) (d : Die) (dice : List Die) (y : Board) (m : ℕ × ℕ) (z : Board)
    (moves : List (ℕ × ℕ)) → (¬ IsFinished x) → m.1 ≡ m.0 - number d →
    StepFrom x (number d) m.0 z → IsFirstOf z dice y moves →
    ((s : ℕ) (w : Board) → m.0 < s → StepFrom x (number d) s w → ¬ Run w dice y) →
    IsFirstOf x (d ∷ dice) y (m ∷ moves)
first_move x d dice y m z moves left distance step first above =
    record { leads = (left, (distance, (z, (step, first.leads)))); first = none }
  where
    none : (others : List (ℕ × ℕ)) → Moves x (d ∷ dice) others y →
        ¬ IsFoundBefore others (m ∷ moves)
    none [] plays before = before
    none (n ∷ others) (left', (distance', (w, (step', plays)))) before = elim before [
      | inl higher ↦ above n.0 w higher step' (moves_run dice w y others plays)
      | inr later ↦
          let there : StepFrom x (number d) m.0 w =
          subst (λ s. StepFrom x (number d) s w) later.0 step' in
          let same : w ≡ z = one_step x (number d) m.0 w z there step in
          first.first others (subst (λ v. Moves v dice others y) same plays) later.1
    ]

-- dice are the first one and the others
pub dice_cons : (dice : List Die) (d : Die) → 0 < length dice → d ≡ get_or dice 0 d →
    dice ≡ d ∷ take (length dice - 1) (drop 1 dice)
dice_cons [] d some at = absurd (omega arith)
dice_cons (e ∷ dice) d some at =
    let others : take (length (e ∷ dice) - 1) dice ≡ dice = take_all _ dice (omega arith) in cc

-- the same, of the first of the dice and the others
pub first_of_dice : (x : Board) (dice : List Die) (d : Die) (y : Board) (m : Move) (z : Board)
    (moves all : List Move) → all ≡ m ∷ moves → m.to ≡ m.from - number d → 0 < length dice →
    d ≡ get_or dice 0 d → (¬ IsFinished x) → StepFrom x (number d) m.from z →
    IsFirstOf z (take (length dice - 1) (drop 1 dice)) y (moves_of moves) →
    ((s : ℕ) (w : Board) → m.from < s → StepFrom x (number d) s w →
    ¬ Run w (take (length dice - 1) (drop 1 dice)) y) →
    IsFirstOf x dice y (moves_of all)
first_of_dice x dice d y m z moves all are distance some at left step first above =
    let rest = take (length dice - 1) (drop 1 dice) in
    let whole : IsFirstOf x (d ∷ rest) y (moves_of (m ∷ moves)) =
    first_move x d rest y (move_of m) z (moves_of moves) left distance step first above in
    subst (λ ds. IsFirstOf x ds y (moves_of all)) (sym (dice_cons dice d some at))
    (subst (λ ms. IsFirstOf x (d ∷ rest) y (moves_of ms)) (sym are) whole)

-- where no step from the point itself leads on either, none does from a point above the next
pub none_below : (x : Board) (d : Die) (rest : List Die) (y : Board) (source : ℕ) → 0 < source
    → ((s : ℕ) (z : Board) → source < s → StepFrom x (number d) s z → ¬ Run z rest y)
    → ((z : Board) → StepFrom x (number d) source z → ¬ Run z rest y)
    → (s : ℕ) (z : Board) → source - 1 < s → StepFrom x (number d) s z → ¬ Run z rest y
none_below x d rest y source some above here s z past step =
    elim (cases_lt source s) [
      | inl higher ↦ above s z higher step
      | inr low ↦
          let same : s ≡ source = omega arith in
          here z (subst (λ p. StepFrom x (number d) p z) same step)
    ]
