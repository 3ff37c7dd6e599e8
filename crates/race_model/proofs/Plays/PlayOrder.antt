-- There is one first play to a position.
use Rattle.std.proofs.Common.{◌≡◌, ◌⊎◌, inl, inr, ⊎_elim, ℕ, ◌-◌, ◌<◌, ◌≤◌, List, [], ◌∷◌, refl, ap}
use Rattle.std.proofs.Common.{ap₂, sym, subst, ◌∙◌, arith}
use Rattle.race_model.specs.Prelude.{Board, Die, number, Throw, StepFrom, bear_off, move_down, from_highest, Run, Move}
use Rattle.race_model.specs.Prelude.{Moves, IsFoundBefore, IsFirstOf, IsFirstPlay, greater_first, smaller_first}
use Rattle.race_model.specs.Positions.{count}
use Rattle.race_model.specs.FirstPlays.{of_double}

-- a checker that can't be there
no_checker : (x : Board) (s d : ℕ) → ((p : ℕ) → d ≤ p → count x p ≡ 0) → d ≤ s → 0 < count x s → ⊥
no_checker x s d empty le occupied = let none = empty s le in omega (arith, none)

-- a die has one step from a point
pub one_step : (x : Board) (d s : ℕ) (y z : Board) → StepFrom x d s y → StepFrom x d s z → y ≡ z
one_step x d s y z (bear_off at occupied to) (bear_off _ _ to₁) = to ∙ sym to₁
one_step x d s y z (bear_off at occupied to) (move_down below _ to₁) = absurd (omega arith)
one_step x d s y z (bear_off at occupied to) (from_highest empty top to₁) = to ∙ sym to₁
one_step x d s y z (move_down below occupied to) (bear_off at _ to₁) = absurd (omega arith)
one_step x d s y z (move_down below occupied to) (move_down _ _ to₁) = to ∙ sym to₁
one_step x d s y z (move_down below occupied to) (from_highest empty top to₁) =
    absurd (no_checker x s d empty (omega arith) occupied)
one_step x d s y z (from_highest empty top to) (bear_off _ _ to₁) = to ∙ sym to₁
one_step x d s y z (from_highest empty top to) (move_down below occupied to₁) =
    absurd (no_checker x s d empty (omega arith) occupied)
one_step x d s y z (from_highest empty top to) (from_highest _ _ to₁) = to ∙ sym to₁

-- of two plays of the same dice one is found before the other, or they are one
one_of_two : (dice : List Die) (x y : Board) (ms ns : List Move) → Moves x dice ms y →
    Moves x dice ns y → ¬ IsFoundBefore ms ns → ¬ IsFoundBefore ns ms → ms ≡ ns
one_of_two [] x y [] [] p q a b = refl
one_of_two [] x y [] (n ∷ ns) p q a b = absurd q
one_of_two [] x y (m ∷ ms) ns p q a b = absurd p
one_of_two (d ∷ dice) x y [] [] p q a b = refl
one_of_two (d ∷ dice) x y [] (n ∷ ns) p q a b = absurd (q.0 p.0)
one_of_two (d ∷ dice) x y (m ∷ ms) [] p q a b = absurd (p.0 q.0)
one_of_two (d ∷ dice) x y (m ∷ ms) (n ∷ ns) p q a b = ⊎_elim
    (λ less. absurd (b (inl less)))
    (λ rest. ⊎_elim
    (λ more. absurd (a (inl more)))
    (λ e.
    ap₂ (λ c cs. c ∷ cs) (same_move e)
    (one_of_two dice p.1.1.0 y ms ns p.1.1.1.1 (there e) (λ h. a (inr (e, h)))
    (λ h. b (inr (sym e, h)))))
    rest)
    (compare m.0 n.0)
  where
    compare : (u v : ℕ) → (u < v) ⊎ ((v < u) ⊎ (u ≡ v))
    compare u v = grind arith

    same_move : m.0 ≡ n.0 → m ≡ n
    same_move e =
        let to : m.1 ≡ n.1 = p.1.0 ∙ ap (λ s. s - number d) e ∙ sym q.1.0 in λ i. (e i, to i)

    there : m.0 ≡ n.0 → Moves p.1.1.0 dice ns y
    there e =
        subst (λ z. Moves z dice ns y)
        (sym (one_step x (number d) n.0 p.1.1.0 q.1.1.0
        (subst (λ s. StepFrom x (number d) s p.1.1.0) e p.1.1.1.0) q.1.1.1.0)) q.1.1.1.1

-- one play of dice in an order is the first
one_first_of : (x : Board) (dice : List Die) (y : Board) (ms ns : List Move) →
    IsFirstOf x dice y ms → IsFirstOf x dice y ns → ms ≡ ns
one_first_of x dice y ms ns a b =
    one_of_two dice x y ms ns a.leads b.leads (b.first ms a.leads) (a.first ns b.leads)

-- a play is a run
pub moves_run : (dice : List Die) (x y : Board) (ms : List Move) → Moves x dice ms y → Run x dice y
moves_run [] x y [] p = p
moves_run [] x y (m ∷ ms) p = absurd p
moves_run (d ∷ dice) x y [] p = inl p
moves_run (d ∷ dice) x y (m ∷ ms) p =
    inr (p.0, (p.1.1.0, ((m.0, p.1.1.1.0), moves_run dice p.1.1.0 y ms p.1.1.1.1)))

-- one play of a roll is the first
pub one_first_play : (x : Board) (v : Throw) (y : Board) (ms ns : List Move) →
    IsFirstPlay x v y ms → IsFirstPlay x v y ns → ms ≡ ns
one_first_play x v y ms ns (greater_first _ a) (greater_first _ b) = one_first_of x _ y ms ns a b
one_first_play x v y ms ns (greater_first _ a) (smaller_first _ none b) =
    absurd (none (moves_run (v.first ∷ v.second ∷ []) x y ms a.leads))
one_first_play x v y ms ns (greater_first apart a) (of_double same b) = absurd (apart same)
one_first_play x v y ms ns (smaller_first _ none a) (greater_first _ b) =
    absurd (none (moves_run (v.first ∷ v.second ∷ []) x y ns b.leads))
one_first_play x v y ms ns (smaller_first _ _ a) (smaller_first _ _ b) =
    one_first_of x _ y ms ns a b
one_first_play x v y ms ns (smaller_first apart _ a) (of_double same b) = absurd (apart same)
one_first_play x v y ms ns (of_double same a) (greater_first apart b) = absurd (apart same)
one_first_play x v y ms ns (of_double same a) (smaller_first apart _ b) = absurd (apart same)
one_first_play x v y ms ns (of_double _ a) (of_double _ b) = one_first_of x _ y ms ns a b
