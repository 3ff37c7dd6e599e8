-- The 21 rolls and their indexes, and what the search for some dice says of the roll.
use Rattle.std.proofs.Common.{◌≡◌, ◌≢◌, List, [], ◌∷◌, ◌⊎◌, inl, inr, ◌↔◌, Option, Some, None, IsSome, IfSome, IfNone}
use Rattle.std.proofs.Common.{refl, sym, ◌∙◌, ap, subst, ℕ}
use Rattle.arrayvec.specs.ArrayVec.{ArrayVec}
use Rattle.race_model.specs.Prelude.{Board, Die, Throw, number, IsRoll, roll_at, roll_index, Run, IsFirstOf}
use Rattle.race_model.specs.Prelude.{IsFirstPlay, smaller_first}
use Rattle.legal_plays.specs.declared.moves.Move.{Move}
use Rattle.race_model.proofs.Plays.PlayOrder.{moves_run}
use Rattle.legal_plays.specs.MoveLists.{moves_of}
use Rattle.race_model.proofs.Dice.Throws.{index_of_roll}

-- a play is found exactly where there is a run
pub found_run : (x : Board) (dice : List Die) (y : Board) (found : Option (ArrayVec Move)) →
    IfSome found (λ play. IsFirstOf x dice y (moves_of play.items)) → IfNone found (¬ Run x dice y)
    → IsSome found ↔ Run x dice y
found_run x dice y None first none = (λ some. absurd (cc), λ run. absurd (none run))
found_run x dice y (Some play) first none =
    (λ some. moves_run dice x y (moves_of play.items) first.leads, λ run. refl)

-- the dice of the roll are as different as what was read of them
differ : (v : Throw) (a b : Die) → a ≡ v.first → b ≡ v.second → (number a ≢ number b) →
    v.first ≢ v.second
differ v a b first second apart same = apart (ap number (first ∙ same ∙ sym second))

-- the first play with the smaller die first, where the other order has none
pub first_of_smaller :
    (x : Board) (v : Throw) (a b : Die) (y : Board) (found : Option (ArrayVec Move)) →
    a ≡ v.first → b ≡ v.second → (number a ≢ number b)
    → (¬ Run x (a ∷ b ∷ []) y) →
    IfSome found (λ play. IsFirstOf x (b ∷ a ∷ []) y (moves_of play.items)) →
    IfSome found (λ play. IsFirstPlay x v y (moves_of play.items))
first_of_smaller x v a b y None first second apart none searched = tt
first_of_smaller x v a b y (Some play) first second apart none searched =
    smaller_first (differ v a b first second apart)
    (subst (λ d. ¬ Run x (d ∷ v.second ∷ []) y) first
    (subst (λ d. ¬ Run x (a ∷ d ∷ []) y) second none))
    (subst (λ d. IsFirstOf x (v.second ∷ d ∷ []) y (moves_of play.items)) first
    (subst (λ d. IsFirstOf x (d ∷ a ∷ []) y (moves_of play.items)) second searched))

-- where the first of two searches finds nothing, what is found is found by the second
pub second_only : (found : Option (ArrayVec Move)) (Second : Type 0) → found ≡ None →
    Second ↔ (IsSome found ⊎ Second)
second_only None Second is =
    (λ second. inr second, λ either. elim either [ inl none ↦ absurd (cc) | inr second ↦ second ])
second_only (Some play) Second is = absurd (cc)

-- the roll of an index
pub roll_at_is : (v : Throw) (i : ℕ) → roll_index v ≡ i → IsRoll v → v ≡ roll_at i
roll_at_is v i e h = sym (index_of_roll v h).1 ∙ ap roll_at e
