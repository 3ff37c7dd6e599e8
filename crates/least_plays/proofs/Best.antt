-- The best of what dice lead to, from the best of what they lead to after a step.
use Rattle.std.proofs.Common.{◌≡◌, inr, ⊎_elim, ◌↔◌, ℕ, zero, suc, ◌+◌, ◌-◌, ◌<◌, ◌≤◌, List, [], ◌∷◌, length, replicate}
use Rattle.std.proofs.Common.{refl, ap, sym, subst, ◌∙◌, arith, below_more, ◌≢◌, set, get_or-set_other, get_or-set_same}
use Rattle.std.proofs.Common.{slice_index, inl}
use Rattle.std.proofs.lemmas.Bool.{eq-eqb, ne_eqb}
use Rattle.race_model.proofs.Dice.Faces.{same_die, same_number, number_positive}
use Rattle.race_model.proofs.Plays.Spent.{number_most}
use Rattle.race_model.specs.Prelude.{Board, IsFinished, pips, Die, one, two, three, four, five, six, number, Step, Run}
use Rattle.race_model.specs.Prelude.{rank, IsBestOf, IsHighest, fewer, more, StepFrom}
use Rattle.race_model.proofs.Plays.Steps.{to_position, fewer_pips}
use Rattle.race_model.proofs.Plays.Spent.{step_takes}
use Rattle.race_model.proofs.Ranks.RankOrder.{rank-fewer, rank_bound}
use Rattle.race_model.proofs.Ranks.BestPlays.{run_lower}
use Rattle.race_model.specs.Positions.{count}
use Rattle.race_model.proofs.Plays.Enumerated.{from_occupied}
use Rattle.std.proofs.lemmas.Bool.{cases_lt}
use Rattle.legal_plays.proofs.StepLemmas.{step_source}
use Rattle.least_plays.specs.Firsts.{IsNoWorse, IsBetterOf, IsFirst, IsBestFirst}
use Rattle.least_plays.specs.Known.{number_in, kept_in, dice_left, start_of, IsBestAfter, IsNext, IsStart}
use Rattle.least_plays.proofs.Chains.{step_to, can_step, can_step_highest}
use Rattle.least_plays.specs.declared.room.LeastPlays.{LeastPlays}

-- what is no worse than a rank is no worse than any rank that this is no worse than
pub no_worse_on : (mean : ℕ → ℕ) (r s t : ℕ) → IsNoWorse mean r s → IsNoWorse mean s t →
    IsNoWorse mean r t
no_worse_on mean r s t first second = record {
  least = omega (arith, first.least, second.least);
  lowest = λ e.
      let here : mean t ≡ mean s = omega (arith, first.least, second.least) in
      let there : mean s ≡ mean r = omega arith in
      let low = first.lowest there in
      let high = second.lowest here in
      omega arith;
}

-- a rank is no worse than itself
no_worse_same : (mean : ℕ → ℕ) (r s : ℕ) → r ≡ s → IsNoWorse mean r s
no_worse_same mean r s same = record {
  least = omega (arith, ap mean same);
  lowest = λ e. omega arith;
}

-- the steps of a die
module _ (mean kept : ℕ → ℕ) (x : Board) (d : Die) (top : ℕ) (highest : IsHighest x top) where
  -- the first is that from the highest point
  pub first_of_highest : (r : ℕ) → r ≡ kept (rank (more (fewer x top) (top - number d))) →
      IsFirst mean kept x d top 1 r
  first_of_highest r is = record {
    one = (
      top,
      more (fewer x top) (top - number d),
      can_step_highest x (number d) top highest,
      sym is,
    );
    best = λ t z seen step. ⊎_elim
        (λ here.
        let to : z ≡ more (fewer x top) (top - number d) =
        subst (λ p. z ≡ more (fewer x p) (p - number d)) here (step_to x (number d) t z step) in
        no_worse_same mean r (kept (rank z)) (is ∙ sym (ap (λ w. kept (rank w)) to)))
        (λ low.
        let none : t ≡ 0 = omega (arith, low) in
        let has = from_occupied x (number d) t z step in
        absurd (omega (arith, has, ap (count x) none)))
        seen;
  }

  -- the better of the best so far and of what is kept of one step more is the next
  pub first_more : (s q r : ℕ) → number d ≤ s → 0 < count x s → IsFirst mean kept x d top s q →
      IsBetterOf mean q (kept (rank (more (fewer x s) (s - number d)))) r →
      IsFirst mean kept x d top (s + 1) r
  first_more s q r few occupied before better = record {
    one = ⊎_elim
        (λ was. (
          before.one.0,
          before.one.1,
          before.one.2,
          before.one.3 ∙ sym was,
        ))
        (λ now. (
          s,
          more (fewer x s) (s - number d),
          can_step x (number d) s few occupied,
          sym now,
        ))
        better.either;
    best = λ t z seen step. ⊎_elim
        (λ high. no_worse_on mean r q (kept (rank z)) better.one (before.best t z (inl high) step))
        (λ low. ⊎_elim
        (λ below.
        no_worse_on mean r q (kept (rank z)) better.one (before.best t z (inr below) step))
        (λ past.
        let here : t ≡ s = omega (arith, low, past) in
        let to : z ≡ more (fewer x s) (s - number d) =
        subst (λ p. z ≡ more (fewer x p) (p - number d)) here (step_to x (number d) t z step) in
        subst (λ w. IsNoWorse mean r (kept (rank w))) (sym to) better.other)
        (cases_lt t s))
        seen;
  }

  -- the best so far is the next where there is no step more
  pub first_same : (s r : ℕ) → ((z : Board) → ¬ StepFrom x (number d) s z) →
      IsFirst mean kept x d top s r → IsFirst mean kept x d top (s + 1) r
  first_same s r none before = record {
    one = before.one;
    best = λ t z seen step. ⊎_elim
        (λ high. before.best t z (inl high) step)
        (λ low. ⊎_elim
        (λ below. before.best t z (inr below) step)
        (λ past.
        let here : t ≡ s = omega (arith, low, past) in
        absurd (none z (subst (λ p. StepFrom x (number d) p z) here step)))
        (cases_lt t s))
        seen;
  }

  -- at the highest point it is the best of all
  pub first_all : (limit r : ℕ) → limit ≡ top → IsFirst mean kept x d top limit r →
      IsBestFirst mean kept x d r
  first_all limit r end first = record {
    one = (first.one.1, (first.one.0, first.one.2), first.one.3);
    best = λ z step. ⊎_elim
        (λ below. first.best step.0 z (inr (omega (arith, below, end))) step.1)
        (λ past.
        let within = step_source x top (number d) step.0 z
        (λ none. absurd (omega (arith, highest.occupied, ap (count x) none))) (λ _. highest)
        step.1 in
        first.best step.0 z (inl (omega (arith, past, within))) step.1)
        (cases_lt step.0 top);
  }

-- what holds of the nine places
nine : (P : ℕ → Type 0) → P 0 → P 1 → P 2 → P 3 → P 4 → P 5 → P 6 → P 7 → P 8 →
    (j : ℕ) → j < 9 → P j
nine P a b c d e f g h i =
    below_more P 8 (below_more P 7 (below_more P 6 (below_more P 5 (below_more P 4
    (below_more P 3 (below_more P 2 (below_more P 1 (below_more P 0
    (λ j lt. absurd (omega (arith, lt))) a) b) c) d) e) f) g) h) i

-- of equal dice three are left
pub dice_left-same : (a b : Die) → number a ≡ number b → dice_left a b ≡ 3
dice_left-same a b e = rw (eq-eqb (number a) (number b) e)

-- of two different ones one is
pub dice_left-apart : (a b : Die) → number a ≢ number b → dice_left a b ≡ 1
dice_left-apart a b apart = rw (ne_eqb (number a) (number b) apart)

-- the first six
unfoldable pub six_of : List ℕ → List ℕ
six_of xs =
    slice_index xs 0 ∷ slice_index xs 1 ∷ slice_index xs 2 ∷ slice_index xs 3 ∷ slice_index xs 4
    ∷ slice_index xs 5 ∷ []

-- the number of a die among the first six
six_of-is : (xs : List ℕ) (e : Die) →
    slice_index (six_of xs) (number e - 1) ≡ slice_index xs (number e - 1)
unfolding six_of
six_of-is xs one = refl
six_of-is xs two = refl
six_of-is xs three = refl
six_of-is xs four = refl
six_of-is xs five = refl
six_of-is xs six = refl

-- the best is no worse than anything that is reached
pub no_worse_of_best : (mean : ℕ → ℕ) (Reached : Board → Type 0) (r : ℕ) (z : Board) →
    IsBestOf mean Reached r → Reached z → IsNoWorse mean r (rank z)
no_worse_of_best mean Reached r z best got = record {
  least = best.least z got;
  lowest = best.lowest z got;
}

-- where something is reached and r is no worse than all of it, r is the best
pub best_of_no_worse : (mean : ℕ → ℕ) (Reached : Board → Type 0) (r : ℕ) →
    (z : Board) × (Reached z) × (rank z ≡ r) →
    ((z : Board) → Reached z → IsNoWorse mean r (rank z)) → IsBestOf mean Reached r
best_of_no_worse mean Reached r reached each = record {
  reached = reached;
  least = λ z got. (each z got).least;
  lowest = λ z got. (each z got).lowest;
}

-- the best of the same positions in other words
pub best_same : (mean : ℕ → ℕ) (Here There : Board → Type 0) (r : ℕ) →
    ((z : Board) → Here z ↔ There z) → IsBestOf mean Here r → IsBestOf mean There r
best_same mean Here There r same best = record {
  reached = (best.reached.0, (same best.reached.0).0 best.reached.1, best.reached.2);
  least = λ z got. best.least z ((same z).1 got);
  lowest = λ z got. best.lowest z ((same z).1 got);
}

-- of the bests after each step, the best is the best of all
pub best_of_steps : (mean : ℕ → ℕ) (x : Board) (d : Die) (dice : List Die) (kept : ℕ → ℕ)
    (r : ℕ) → ¬ IsFinished x →
    ((z : Board) → Step x d z → IsBestAfter mean z dice (kept (rank z))) →
    IsBestFirst mean kept x d r → IsBestAfter mean x (d ∷ dice) r
best_of_steps mean x d dice kept r unfinished bests least =
    best_of_no_worse mean (Run x (d ∷ dice)) r reached each
  where
    reached : (y : Board) × (Run x (d ∷ dice) y) × (rank y ≡ r)
    reached =
        let z = least.one in
        let y = (bests z.0 z.1).reached in
        (y.0, inr (unfinished, (z.0, (z.1, y.1))), y.2 ∙ z.2)

    after : (z y : Board) → Step x d z → Run z dice y → IsNoWorse mean r (rank y)
    after z y step run =
        no_worse_on mean r (kept (rank z)) (rank y) (least.best z step)
        (no_worse_of_best mean (Run z dice) (kept (rank z)) y (bests z step) run)

    each : (y : Board) → Run x (d ∷ dice) y → IsNoWorse mean r (rank y)
    each y run = ⊎_elim
        (λ still. absurd (unfinished still.0))
        (λ goes. after goes.1.0 y goes.1.1.0 goes.1.1.1)
        run

-- the next position, and a step of it
module _ {n : ℕ} (mean : ℕ → ℕ) (size : ℕ) (plays : LeastPlays n) (x : Board)
    (next : IsNext mean size plays x) where
  -- what is kept of a position one step on is the best there
  pub kept_best : (d e : Die) (n : ℕ) (z : Board) → n ≤ 3 → Step x d z →
      IsBestAfter mean z (replicate n e) (number_in plays.rows (rank z) e n)
  unfolding number_in
  kept_best d e zero z few step = record {
    reached = (z, refl, refl);
    least = λ y same. omega (arith, ap (λ w. mean (rank w)) same);
    lowest = λ y same _. omega (arith, ap rank same);
  }
  kept_best d e (suc n) z few step =
      let there = to_position x d z next.position step in
      next.known.each z there
      (rank-fewer z x there next.position (fewer_pips x d z step))
      ((rank_bound x (pips z + 6) next.position).1 (step_takes x d z step)) e n (omega arith)

  -- what is kept of a position one step on is a rank whose mean is there
  pub kept_held : (d e : Die) (n : ℕ) (z : Board) → n ≤ 3 → Step x d z →
      number_in plays.rows (rank z) e n < size
  kept_held d e n z few step =
      let y = (kept_best d e n z few step).reached in
      let lower = run_lower d (replicate n e) x y.0 next.position next.unfinished
      (inr (next.unfinished, (z, (step, y.1)))) in
      omega (arith, lower, y.2, next.held)

  -- each of the numbers that are kept for what may follow a die is a rank whose mean is there
  pub kept_held_each : (d : Die) (z : Board) (j : ℕ) → Step x d z → j < 9 →
      slice_index (kept_in plays.rows (rank z) d) j < size
  unfolding kept_in
  kept_held_each d z j step =
      let held : (e : Die) (n : ℕ) → n ≤ 3 → number_in plays.rows (rank z) e n < size =
      λ e n few. kept_held d e n z few step in
      let once : (e : Die) → number_in plays.rows (rank z) e 1 < size =
      λ e. held e 1 (omega arith) in
      nine (λ j. slice_index (kept_in plays.rows (rank z) d) j < size)
      (once one) (once two) (once three) (once four) (once five) (once six)
      (held d 0 (omega arith)) (held d 2 (omega arith)) (held d 3 (omega arith)) j

  -- the best of each of them over the steps are the best ranks with the die first
  pub start_of_least : (d : Die) (best : List ℕ) (own : ℕ) → own ≡ number d - 1 →
      ((j : ℕ) → j < 9 →
      IsBestFirst mean (λ q. slice_index (kept_in plays.rows q d) j) x d (slice_index best j)) →
      IsStart mean x d (start_of best own)
  unfolding kept_in six_of start_of
  start_of_least d best own is least = record { after = after; plays = plays_of } where
    of_steps : (e : Die) (n r : ℕ) → n ≤ 3 →
        IsBestFirst mean (λ q. number_in plays.rows q e n) x d r →
        IsBestAfter mean x (d ∷ replicate n e) r
    of_steps e n r few =
        best_of_steps mean x d (replicate n e) (λ q. number_in plays.rows q e n) r
        next.unfinished (λ z step. kept_best d e n z few step)

    once : (e : Die) → IsBestAfter mean x (d ∷ replicate 1 e) (slice_index best (number e - 1))
    once one = of_steps one 1 (slice_index best 0) (omega arith) (least 0 (omega arith))
    once two = of_steps two 1 (slice_index best 1) (omega arith) (least 1 (omega arith))
    once three = of_steps three 1 (slice_index best 2) (omega arith) (least 2 (omega arith))
    once four = of_steps four 1 (slice_index best 3) (omega arith) (least 3 (omega arith))
    once five = of_steps five 1 (slice_index best 4) (omega arith) (least 4 (omega arith))
    once six = of_steps six 1 (slice_index best 5) (omega arith) (least 5 (omega arith))

    after : (n : ℕ) → n < 3 → IsBestAfter mean x (d ∷ replicate n d)
        (slice_index (slice_index best 6 ∷ slice_index best own ∷ slice_index best 7 ∷ []) n)
    after =
        let IsAfter : ℕ → Type 0 =
        λ n. IsBestAfter mean x (d ∷ replicate n d)
        (slice_index (slice_index best 6 ∷ slice_index best own ∷ slice_index best 7 ∷ []) n) in
        below_more IsAfter 2 (below_more IsAfter 1 (below_more IsAfter 0
        (λ j lt. absurd (omega (arith, lt)))
        (of_steps d 0 (slice_index best 6) (omega arith) (least 6 (omega arith))))
        (subst (λ i. IsBestAfter mean x (d ∷ replicate 1 d) (slice_index best i)) (sym is)
        (once d)))
        (of_steps d 2 (slice_index best 7) (omega arith) (least 7 (omega arith)))

    plays_of : (e : Die) → IsBestAfter mean x (d ∷ replicate (dice_left d e) e)
        (slice_index (set (six_of best) own (slice_index best 8)) (number e - 1))
    plays_of e = ⊎_elim
        (λ same.
        let at : number e - 1 ≡ own = omega (arith, is, ap number same) in
        let inside : own < length (six_of best)
        = omega (arith, is, number_positive d, number_most d) in
        subst (λ n. IsBestAfter mean x (d ∷ replicate n e)
        (slice_index (set (six_of best) own (slice_index best 8)) (number e - 1)))
        (sym (dice_left-same d e (ap number same)))
        (subst (λ r. IsBestAfter mean x (d ∷ replicate 3 e) r)
        (sym (ap (slice_index (set (six_of best) own (slice_index best 8))) at
        ∙ get_or-set_same (six_of best) own (slice_index best 8) 0 inside))
        (subst (λ e. IsBestAfter mean x (d ∷ replicate 3 e) (slice_index best 8)) same
        (of_steps d 3 (slice_index best 8) (omega arith) (least 8 (omega arith))))))
        (λ apart.
        let differ : number d ≢ number e = λ e. apart (same_number _ _ e) in
        let away : number e - 1 ≢ own =
        λ i. differ (omega (arith, i, is, number_positive d, number_positive e)) in
        subst (λ n. IsBestAfter mean x (d ∷ replicate n e)
        (slice_index (set (six_of best) own (slice_index best 8)) (number e - 1)))
        (sym (dice_left-apart d e differ))
        (subst (λ r. IsBestAfter mean x (d ∷ replicate 1 e) r)
        (sym (get_or-set_other (six_of best) own (number e - 1) (slice_index best 8) 0 away
        ∙ six_of-is best e))
        (once e)))
        (same_die d e)
