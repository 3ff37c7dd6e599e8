-- The legal plays of a throw, by runs.
use Rattle.std.proofs.Common.{◌≡◌, ◌≢◌, ℕ, zero, suc, ◌+◌, ◌-◌, List, [], ◌∷◌, length, get_or, ◌⊎◌}
use Rattle.std.proofs.Common.{inl, inr, ◌↔◌, Contains, sym, ◌∙◌, ap, subst, refl, length-set, arith}
use Rattle.std.proofs.lemmas.List.Elements.{Contains-get_or}
use Rattle.race_model.specs.Prelude.{Board, fewer, more, Die, Throw, number, StepFrom, Run, Legal, bear_off, move_down}
use Rattle.race_model.specs.Prelude.{from_highest, in_order, in_reverse, double}
use Rattle.race_model.proofs.Dice.Faces.{same_number}
use Rattle.legal_plays.specs.RankOrder.{IsInRankOrder, IsAscending}
use Rattle.legal_plays.proofs.RankLemmas.{before_less}

-- a double is played four times
pub legal_double : (x : Board) (v : Throw) (y : Board) → v.first ≡ v.second →
    Run x (v.first ∷ v.first ∷ v.first ∷ v.first ∷ []) y ↔ Legal x v y
legal_double x v y same = (λ run. double same run, back)
  where
    back : Legal x v y → Run x (v.first ∷ v.first ∷ v.first ∷ v.first ∷ []) y
    back (in_order apart run) = absurd (apart same)
    back (in_reverse apart run) = absurd (apart same)
    back (double same' run) = run

-- two different dice are played in either order
pub legal_apart : (x : Board) (v : Throw) (y : Board) → v.first ≢ v.second
    → (Run x (v.first ∷ v.second ∷ []) y ⊎ Run x (v.second ∷ v.first ∷ []) y) ↔ Legal x v y
legal_apart x v y apart = (
  λ run. elim run [ inl first ↦ in_order apart first | inr second ↦ in_reverse apart second ],
  back,
)
  where
    back : Legal x v y → Run x (v.first ∷ v.second ∷ []) y ⊎ Run x (v.second ∷ v.first ∷ []) y
    back (in_order apart' run) = inl run
    back (in_reverse apart' run) = inr run
    back (double same run) = absurd (apart same)

-- the same, of dice that are those of the roll
pub results_double : (x : Board) (v : Throw) (a b : Die) (y : Board) (Now : Type 0) → a ≡ v.first →
    b ≡ v.second → number a ≡ number b
    → (Now ↔ Run x (a ∷ a ∷ a ∷ a ∷ []) y) → Now ↔ Legal x v y
results_double x v a b y Now first second same now =
    (λ got. legal.0 (there (now.0 got)), λ play. now.1 (back (legal.1 play)))
  where
    legal : Run x (v.first ∷ v.first ∷ v.first ∷ v.first ∷ []) y ↔ Legal x v y
    legal = legal_double x v y (sym first ∙ same_number a b same ∙ second)

    there : Run x (a ∷ a ∷ a ∷ a ∷ []) y → Run x (v.first ∷ v.first ∷ v.first ∷ v.first ∷ []) y
    there =
        subst (λ d. Run x (a ∷ a ∷ a ∷ a ∷ []) y → Run x (d ∷ d ∷ d ∷ d ∷ []) y) first (λ run. run)

    back : Run x (v.first ∷ v.first ∷ v.first ∷ v.first ∷ []) y → Run x (a ∷ a ∷ a ∷ a ∷ []) y
    back =
        subst (λ d. Run x (d ∷ d ∷ d ∷ d ∷ []) y → Run x (a ∷ a ∷ a ∷ a ∷ []) y) first (λ run. run)

-- the same, of two different dice
pub results_apart : (x : Board) (v : Throw) (a b : Die) (y : Board) (Now One Other : Type 0) →
    a ≡ v.first → b ≡ v.second → (number a ≢ number b)
    → (One ↔ Run x (a ∷ b ∷ []) y) → (Other ↔ Run x (b ∷ a ∷ []) y) → (Now ↔ (One ⊎ Other)) →
    Now ↔ Legal x v y
results_apart x v a b y Now One Other first second apart one other now = (there, back)
  where
    differ : v.first ≢ v.second
    differ same = apart (ap number (first ∙ same ∙ sym second))

    legal : (Run x (v.first ∷ v.second ∷ []) y ⊎ Run x (v.second ∷ v.first ∷ []) y) ↔ Legal x v y
    legal = legal_apart x v y differ

    there : Now → Legal x v y
    there got = elim (now.0 got) [
      | inl this ↦
          legal.0 (inl (subst (λ d. Run x (d ∷ v.second ∷ []) y) first
          (subst (λ d. Run x (a ∷ d ∷ []) y) second (one.0 this))))
      | inr that ↦
          legal.0 (inr (subst (λ d. Run x (v.second ∷ d ∷ []) y) first
          (subst (λ d. Run x (d ∷ a ∷ []) y) second (other.0 that))))
    ]

    back : Legal x v y → Now
    back play = elim (legal.1 play) [
      | inl this ↦
          now.1 (inl (one.1 (subst (λ d. Run x (d ∷ b ∷ []) y) (sym first)
          (subst (λ d. Run x (v.first ∷ d ∷ []) y) (sym second) this))))
      | inr that ↦
          now.1 (inr (other.1 (subst (λ d. Run x (b ∷ d ∷ []) y) (sym first)
          (subst (λ d. Run x (d ∷ v.first ∷ []) y) (sym second) that))))
    ]

-- a checker taken from a point leaves the number of points
length-fewer : (x : Board) (s : ℕ) → length (fewer x s) ≡ length x
length-fewer x zero = refl
length-fewer x (suc i) = length-set x i (get_or x i 0 - 1)

-- so does one put on a point
length-more : (x : Board) (s : ℕ) → length (more x s) ≡ length x
length-more x zero = refl
length-more x (suc i) = length-set x i (get_or x i 0 + 1)

-- a step leaves the number of points
length-step : (x : Board) (d s : ℕ) (y : Board) → StepFrom x d s y → length y ≡ length x
length-step x d s y (bear_off at there is) = ap length is ∙ length-fewer x s
length-step x d s y (move_down below there is) =
    ap length is ∙ length-more (fewer x s) (s - d) ∙ length-fewer x s
length-step x d s y (from_highest empty top is) = ap length is ∙ length-fewer x s

-- and so does a run
pub length-run : (x : Board) (dice : List Die) (y : Board) → Run x dice y → length y ≡ length x
length-run x [] y run = ap length run
length-run x (d ∷ dice) y run = elim run [
  | inl end ↦ ap length end.1
  | inr move ↦
      length-run move.1.0 dice y move.1.1.1 ∙ length-step x _ move.1.1.0.0 move.1.0 move.1.1.0.1
]

-- and so does a legal play
pub length-legal : (x : Board) (v : Throw) (y : Board) → Legal x v y → length y ≡ length x
length-legal x v y (in_order apart run) = length-run x (v.first ∷ v.second ∷ []) y run
length-legal x v y (in_reverse apart run) = length-run x (v.second ∷ v.first ∷ []) y run
length-legal x v y (double same run) =
    length-run x (v.first ∷ v.first ∷ v.first ∷ v.first ∷ []) y run

-- what the comparison finds in order is in the order of ranks, where all are lists of one length
pub in_rank_order : (xs : List Board) (n : ℕ) → ((y : Board) → Contains xs y → length y ≡ n) →
    IsAscending xs → IsInRankOrder xs
in_rank_order xs n long ascending = record {
  pairs = λ i j d before inside.
      before_less (get_or xs i d) (get_or xs j d)
      (long _ (Contains-get_or xs i d (omega arith))
      ∙ sym (long _ (Contains-get_or xs j d inside)))
      (ascending.pairs i j d before inside);
}
