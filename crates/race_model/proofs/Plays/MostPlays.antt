-- The rule of the most dice gives the legal plays: while a checker is left each die can be used,
-- so only a board that is empty leaves dice unused, and there the other order of the dice, or the
-- greater die alone, leads too.
use Rattle.std.proofs.Common.{◌≡◌, ◌≢◌, ◌⊎◌, inl, inr, ⊎_elim, ℕ, zero, suc, ◌+◌, ◌-◌, ◌<◌, ◌≤◌}
use Rattle.std.proofs.Common.{List, [], ◌∷◌, ◌++◌, length, get_or, replicate, refl, ap, sym, subst}
use Rattle.std.proofs.Common.{◌∙◌, arith, le_of_eq}
use Rattle.std.proofs.lemmas.List.{get_or-set_same, get_or-set_other, length-replicate}
use Rattle.race_model.specs.Prelude.{Board, IsFinished, IsHighest, fewer, more, Die, number, Throw, Step, bear_off}
use Rattle.race_model.specs.Prelude.{move_down, from_highest, Run, Legal, in_order, in_reverse, double, Uses, IsOffered}
use Rattle.race_model.specs.Prelude.{no_die, first_alone, second_alone, both_in_order, both_in_reverse, MostDice}
use Rattle.race_model.specs.Positions.{count}
use Rattle.race_model.specs.MostDice.{of_double}
use Rattle.race_model.proofs.Numbers.Sums.{zeros_of_sum}
use Rattle.race_model.proofs.Plays.Steps.{playable, occupied_place, one_fewer, one_more, one_moved}
use Rattle.race_model.proofs.Dice.Faces.{number_positive, same_die}
use Rattle.race_model.proofs.Plays.Results.{finished_or_not, run_stays, legal_stays}
use Rattle.race_model.proofs.Plays.Needs.{steps_from-off, steps_from, needs, needs-fewer}
use Rattle.race_model.proofs.Plays.Needs.{needs-step, needs-none, finished_of_needs, under}

-- from the finished position there is no step
no_step : (x : Board) (d : Die) (y : Board) → IsFinished x → Step x d y → ⊥
no_step x d y none goes =
    impossible (needs d y) (needs d x) (needs-step d x y goes) (needs-none d x none)
  where
    impossible : (a b : ℕ) → a + 1 ≡ b → b ≡ 0 → ⊥
    impossible a b e f = omega arith

-- dice that are used are a run
uses_run : (dice : List Die) (x y : Board) → Uses x dice y → Run x dice y
uses_run [] x y same = same
uses_run (d ∷ dice) x y (z, (goes, rest)) =
    inr (λ none. no_step x d z none goes, (z, (goes, uses_run dice z y rest)))

-- where the board is empty after some dice, any others can follow them
uses_run_more : (dice others : List Die) (x y : Board) → Uses x dice y → IsFinished y →
    Run x (dice ++ others) y
uses_run_more [] others x y same none =
    subst (λ z. Run x others z) (sym same) (run_stays others x (subst IsFinished same none))
uses_run_more (d ∷ dice) others x y (z, (goes, rest)) none =
    inr (λ stuck. no_step x d z stuck goes, (z, (goes, uses_run_more dice others z y rest none)))

-- where the board is empty after n dice, the same die can be used again and again
uses_run_times : (n m : ℕ) (d : Die) (x y : Board) → n ≤ m → Uses x (replicate n d) y →
    IsFinished y → Run x (replicate m d) y
uses_run_times zero m d x y le same none =
    subst (λ z. Run x (replicate m d) z) (sym same)
    (run_stays (replicate m d) x (subst IsFinished same none))
uses_run_times (suc n) zero d x y le uses none = absurd (omega arith)
uses_run_times (suc n) (suc m) d x y le (z, (goes, rest)) none =
    inr (
      λ stuck. no_step x d z stuck goes,
      (z, (goes, uses_run_times n m d z y (omega arith) rest none)),
    )

-- one die more
uses_one_more : (n : ℕ) (d : Die) (x y z : Board) → Uses x (replicate n d) y → Step y d z →
    Uses x (replicate (suc n) d) z
uses_one_more zero d x y z same goes = (z, (subst (λ u. Step u d z) same goes, refl))
uses_one_more (suc n) d x y z (u, (first, rest)) goes =
    (u, (first, uses_one_more n d u y z rest goes))

-- a run of one die is so many steps, all of them or to the empty board
record Times (n : ℕ) (d : Die) (x y : Board) : Type 0 where
  times : ℕ
  few : times ≤ n
  uses : Uses x (replicate times d) y
  whole : (times ≡ n) ⊎ IsFinished y

-- so many steps it is
run_times : (n : ℕ) (d : Die) (x y : Board) → Run x (replicate n d) y → Times n d x y
run_times zero d x y same = record {
  times = zero;
  few = omega arith;
  uses = same;
  whole = inl refl;
}
run_times (suc n) d x y (inl still) = record {
  times = zero;
  few = omega arith;
  uses = still.1;
  whole = inr (subst IsFinished (sym still.1) still.0);
}
run_times (suc n) d x y (inr goes) = further (run_times n d goes.1.0 y goes.1.1.1)
  where
    further : Times n d goes.1.0 y → Times (suc n) d x y
    further t = record {
      times = suc t.times;
      few = omega (arith, t.few);
      uses = (goes.1.0, (goes.1.1.0, t.uses));
      whole = ⊎_elim (λ all. inl (ap suc all)) (λ none. inr none) t.whole;
    }

-- so many steps of one die lower the need by as much
needs-uses : (n : ℕ) (d : Die) (x y : Board) → Uses x (replicate n d) y → needs d y + n ≡ needs d x
needs-uses zero d x y same = omega (arith, ap (needs d) same)
needs-uses (suc n) d x y (z, (goes, rest)) =
    let first = needs-step d x z goes in
    let later = needs-uses n d z y rest in omega (arith, first, later)

-- the one die of a list of one die of a double
of_times : (n : ℕ) (d e : Die) → replicate n d ≡ e ∷ [] → e ≡ d
of_times zero d e same = absurd (cc)
of_times (suc n) d e same = cc

-- a double: a run of four is the most dice
double_most : (x : Board) (v : Throw) (y : Board) → v.first ≡ v.second →
    Run x (v.first ∷ v.first ∷ v.first ∷ v.first ∷ []) y → MostDice x v y
double_most x v y same run = record {
  used = replicate t.times v.first;
  offered = of_double t.times t.few same refl;
  uses = t.uses;
  most = most;
  greater =
      λ d e z one offered _.
      le_of_eq (ap number (alone d offered ∙ sym (of_times t.times v.first e one)));
} where
  t : Times 4 v.first x y
  t = run_times 4 v.first x y run

  alone : (d : Die) → IsOffered v (d ∷ []) → d ≡ v.first
  alone d (no_die e) = absurd (cc)
  alone d (first_alone apart e) = absurd (apart same)
  alone d (second_alone apart e) = absurd (apart same)
  alone d (both_in_order apart e) = absurd (apart same)
  alone d (both_in_reverse apart e) = absurd (apart same)
  alone d (of_double n le _ e) = of_times n v.first d (sym e)

  most : (dice : List Die) (z : Board) → IsOffered v dice → Uses x dice z →
      length dice ≤ length (replicate t.times v.first)
  most dice z (no_die e) uses = let none = ap length e in omega (arith, none)
  most dice z (first_alone apart e) uses = absurd (apart same)
  most dice z (second_alone apart e) uses = absurd (apart same)
  most dice z (both_in_order apart e) uses = absurd (apart same)
  most dice z (both_in_reverse apart e) uses = absurd (apart same)
  most dice z (of_double n le _ e) uses =
      let ours = needs-uses t.times v.first x y t.uses in
      let theirs = needs-uses n v.first x z (subst (λ ds. Uses x ds z) e uses) in
      let size = ap length e ∙ length-replicate n v.first in
      ⊎_elim
      (λ all. omega (arith, size, all, length-replicate t.times v.first))
      (λ none.
      let empty = needs-none v.first y none in
      omega (arith, size, ours, theirs, empty, length-replicate t.times v.first))
      t.whole

-- zeros are zero at each place
pub get_or-zeros : (n j : ℕ) → get_or {A = ℕ} (replicate n 0) j 0 ≡ 0
get_or-zeros zero j = refl
get_or-zeros (suc n) zero = refl
get_or-zeros (suc n) (suc j) = get_or-zeros n j

-- on the empty board each point is empty
pub empty_at : (x : Board) (q : ℕ) → IsFinished x → count x q ≡ 0
empty_at x zero none = refl
empty_at x (suc j) none = ap (λ z. get_or z j 0) (zeros_of_sum x none) ∙ get_or-zeros (length x) j

-- two empty boards of as many points are one
same_when_empty : (x y : Board) → length x ≡ length y → IsFinished x → IsFinished y → x ≡ y
same_when_empty x y size none_x none_y =
    zeros_of_sum x none_x ∙ ap (λ n. replicate n 0) size ∙ sym (zeros_of_sum y none_y)

-- the last checker stands on point s
record IsLast (x : Board) (s : ℕ) : Type 0 where
  occupied : 0 < count x s
  empty_after : IsFinished (fewer x s)
  others : (q : ℕ) → q ≢ s → count x q ≡ 0

-- where the board is empty without a checker of point s, it is the last one
last_is : (x : Board) (s : ℕ) → 0 < count x s → IsFinished (fewer x s) → IsLast x s
last_is x zero occupied none = absurd (omega arith)
last_is x (suc i) occupied none = record {
  occupied = occupied;
  empty_after = none;
  others = others;
}
  where
    others : (q : ℕ) → q ≢ suc i → count x q ≡ 0
    others zero apart = refl
    others (suc j) apart =
        sym (get_or-set_other x i j (get_or x i 0 - 1) 0 (λ e. apart (ap suc e)))
        ∙ empty_at (fewer x (suc i)) (suc j) none

-- from the point of the last checker, which is the highest
last_highest : (x : Board) (s : ℕ) → IsLast x s → IsHighest x s
last_highest x s last = record {
  occupied = last.occupied;
  above = λ q over. last.others q (λ e. less q s over e);
}
  where
    less : (q s : ℕ) → s < q → q ≡ s → ⊥
    less q s over e = omega arith

-- a die of at least its point bears off the last checker
last_off : (x : Board) (s : ℕ) (d : Die) → IsLast x s → s ≤ number d → Step x d (fewer x s)
last_off x s d last le = ⊎_elim
    (λ at. (s, bear_off at last.occupied refl))
    (λ below. (
      s,
      from_highest (λ q above. last.others q (apart q s (number d) below above))
          (last_highest x s last) refl,
    ))
    (split s (number d) le)
  where
    split : (s n : ℕ) → s ≤ n → (s ≡ n) ⊎ (s < n)
    split s n le = grind arith

    apart : (q s n : ℕ) → s < n → n ≤ q → q ≢ s
    apart q s n below above e = omega arith

-- whatever a die of at least its point does with the last checker leaves the board empty
last_ends : (x : Board) (s : ℕ) (d : Die) (y : Board) → IsLast x s → s ≤ number d → Step x d y →
    IsFinished y
last_ends x s d y last le goes =
    finished_of_needs d y
    (nothing (needs d y) (needs d x) (needs d (fewer x s)) (steps_from d s)
    (needs-step d x y goes) (needs-fewer d x s last.occupied)
    (needs-none d (fewer x s) last.empty_after)
    (steps_from-off d s (occupied_place x s last.occupied).0 le))
  where
    nothing : (a b c e : ℕ) → a + 1 ≡ b → c + e ≡ b → c ≡ 0 → e ≡ 1 → a ≡ 0
    nothing a b c e p q r t = omega arith

-- a step to the empty board bears off the last checker
record BearsLast (x : Board) (d : Die) (y : Board) : Type 0 where
  point : ℕ
  last : IsLast x point
  reach : point ≤ number d
  to : y ≡ fewer x point

-- a step to the empty board bears off the last checker from where it stands
bears_last : (x : Board) (d : Die) (y : Board) → IsFinished y → Step x d y → BearsLast x d y
bears_last x d y none (s, bear_off at occupied to) = record {
  point = s;
  last = last_is x s occupied (subst IsFinished to none);
  reach = le_of_eq at;
  to = to;
}
bears_last x d y none (s, move_down below occupied to) =
    let kept = (one_moved x (number d) s (number_positive d) below occupied).checkers_lost in
    let taken = (one_fewer x s occupied).checkers_lost in
    let empty = subst IsFinished to none in
    absurd (omega (arith, kept, taken, empty))
bears_last x d y none (s, from_highest empty top to) = record {
  point = s;
  last = last_is x s top.occupied (subst IsFinished to none);
  reach = under x s (number d) empty top.occupied;
  to = to;
}

-- the last checker moves down by a smaller die, and a greater one bears it off from there
last_by_two : (x : Board) (s : ℕ) (a b : Die) (y : Board) → IsLast x s → s ≤ number a →
    number b < s → y ≡ fewer x s → Uses x (b ∷ a ∷ []) y
last_by_two x s a b y last le below to = at (s - number b) (omega arith) refl
  where
    at : (t : ℕ) → t + number b ≡ s → s - number b ≡ t → Uses x (b ∷ a ∷ []) y
    at zero e same = absurd (omega arith)
    at (suc i) e same = (
      z,
      (
        subst (λ t. Step x b (more (fewer x s) t)) same (s, move_down below last.occupied refl),
        (
          fewer z (suc i),
          (last_off z (suc i) a z_last (omega (arith, number_positive b)), ends),
        ),
      ),
    )
      where
        empty : Board
        empty = fewer x s

        z : Board
        z = more empty (suc i)

        place : i < length empty
        place =
            let size = (one_fewer x s last.occupied).same_length in
            let inside = occupied_place x s last.occupied in
            omega (arith, size, inside.1, number_positive b)

        z_one : count z (suc i) ≡ get_or empty i 0 + 1
        z_one = get_or-set_same empty i (get_or empty i 0 + 1) 0 place

        z_occupied : 0 < count z (suc i)
        z_occupied = omega (arith, z_one)

        z_few : IsFinished (fewer z (suc i))
        z_few =
            let put = (one_more empty i place).checkers_lost in
            let taken = (one_fewer z (suc i) z_occupied).checkers_lost in
            let none = last.empty_after in
            omega (arith, put, taken, none)

        z_last : IsLast z (suc i)
        z_last = last_is z (suc i) z_occupied z_few

        ends : y ≡ fewer z (suc i)
        ends =
            to
            ∙ same_when_empty empty (fewer z (suc i))
            ((one_more empty i place).same_length
            ∙ sym (one_fewer z (suc i) z_occupied).same_length) last.empty_after z_few

-- a list is one that two different dice offer
abbrev IsOneOf : Die → Die → List Die → Type 0
IsOneOf a b dice =
    (dice ≡ [])
    ⊎ ((dice ≡ a ∷ []) ⊎ ((dice ≡ b ∷ []) ⊎ ((dice ≡ a ∷ b ∷ []) ⊎ (dice ≡ b ∷ a ∷ []))))

-- the throw shows the two different dice a and b
record Shows (v : Throw) (a b : Die) : Type 0 where
  apart : a ≢ b
  alone : IsOffered v (a ∷ [])
  other_alone : IsOffered v (b ∷ [])
  both : IsOffered v (a ∷ b ∷ [])
  both_reversed : IsOffered v (b ∷ a ∷ [])
  only : (dice : List Die) → IsOffered v dice → IsOneOf a b dice

-- the first die and then the second
shows_in_order : (v : Throw) → v.first ≢ v.second → Shows v v.first v.second
shows_in_order v apart = record {
  apart = apart;
  alone = first_alone apart refl;
  other_alone = second_alone apart refl;
  both = both_in_order apart refl;
  both_reversed = both_in_reverse apart refl;
  only = only;
}
  where
    only : (dice : List Die) → IsOffered v dice → IsOneOf v.first v.second dice
    only dice (no_die e) = inl e
    only dice (first_alone _ e) = inr (inl e)
    only dice (second_alone _ e) = inr (inr (inl e))
    only dice (both_in_order _ e) = inr (inr (inr (inl e)))
    only dice (both_in_reverse _ e) = inr (inr (inr (inr e)))
    only dice (of_double n le same e) = absurd (apart same)

-- the second die and then the first are shown, where they differ
shows_in_reverse : (v : Throw) → v.first ≢ v.second → Shows v v.second v.first
shows_in_reverse v apart = record {
  apart = λ e. apart (sym e);
  alone = second_alone apart refl;
  other_alone = first_alone apart refl;
  both = both_in_reverse apart refl;
  both_reversed = both_in_order apart refl;
  only = only;
}
  where
    only : (dice : List Die) → IsOffered v dice → IsOneOf v.second v.first dice
    only dice (no_die e) = inl e
    only dice (first_alone _ e) = inr (inr (inl e))
    only dice (second_alone _ e) = inr (inl e)
    only dice (both_in_order _ e) = inr (inr (inr (inr e)))
    only dice (both_in_reverse _ e) = inr (inr (inr (inl e)))
    only dice (of_double n le same e) = absurd (apart same)

-- two different dice offer no more than two
two_at_most : (a b : Die) (dice : List Die) → IsOneOf a b dice → length dice ≤ 2
two_at_most a b dice (inl e) = omega (arith, ap length e)
two_at_most a b dice (inr (inl e)) = omega (arith, ap length e)
two_at_most a b dice (inr (inr (inl e))) = omega (arith, ap length e)
two_at_most a b dice (inr (inr (inr (inl e)))) = omega (arith, ap length e)
two_at_most a b dice (inr (inr (inr (inr e)))) = omega (arith, ap length e)

-- both dice are used
both_used : (v : Throw) (a b : Die) (x y : Board) → Shows v a b → IsOffered v (a ∷ b ∷ []) →
    Uses x (a ∷ b ∷ []) y → MostDice x v y
both_used v a b x y shows offered uses = record {
  used = a ∷ b ∷ [];
  offered = offered;
  uses = uses;
  most = λ dice z offer _. two_at_most a b dice (shows.only dice offer);
  greater = λ d e z one _ _. absurd (cc);
}

-- both dice are used in the reverse order
both_used_reversed : (v : Throw) (a b : Die) (x y : Board) → Shows v a b → Uses x (b ∷ a ∷ []) y →
    MostDice x v y
both_used_reversed v a b x y shows uses = record {
  used = b ∷ a ∷ [];
  offered = shows.both_reversed;
  uses = uses;
  most = λ dice z offer _. two_at_most a b dice (shows.only dice offer);
  greater = λ d e z one _ _. absurd (cc);
}

-- the greater die alone bears off the last checker, which the other would bear off too
one_used : (v : Throw) (a b c : Die) (x y : Board) (s : ℕ) → Shows v a b → IsOffered v (c ∷ []) →
    number a ≤ number c → number b ≤ number c → IsLast x s → s ≤ number a → s ≤ number b →
    y ≡ fewer x s → MostDice x v y
one_used v a b c x y s shows offered a_less b_less last reach_a reach_b to = record {
  used = c ∷ [];
  offered = offered;
  uses = (fewer x s, (last_off x s c last (omega arith), to));
  most = λ dice z offer uses. most dice z (shows.only dice offer) uses;
  greater =
      λ d e z one offer _.
      subst (λ e. number d ≤ number e) (head c e one) (greater d (shows.only (d ∷ []) offer));
} where
  head : (c e : Die) → c ∷ [] ≡ e ∷ [] → c ≡ e
  head c e same = cc

  greater : (d : Die) → IsOneOf a b (d ∷ []) → number d ≤ number c
  greater d (inl e) = absurd (cc)
  greater d (inr (inl e)) = subst (λ d. number d ≤ number c) (sym (head d a e)) a_less
  greater d (inr (inr (inl e))) = subst (λ d. number d ≤ number c) (sym (head d b e)) b_less
  greater d (inr (inr (inr (inl e)))) = absurd (cc)
  greater d (inr (inr (inr (inr e)))) = absurd (cc)

  none_more : (d e : Die) (z : Board) → s ≤ number d → Uses x (d ∷ e ∷ []) z → ⊥
  none_more d e z reach (u, (first, (w, (second, _)))) =
      no_step u e w (last_ends x s d u last reach first) second

  most : (dice : List Die) (z : Board) → IsOneOf a b dice → Uses x dice z → length dice ≤ 1
  most dice z (inl e) uses = omega (arith, ap length e)
  most dice z (inr (inl e)) uses = omega (arith, ap length e)
  most dice z (inr (inr (inl e))) uses = omega (arith, ap length e)
  most dice z (inr (inr (inr (inl e)))) uses =
      absurd (none_more a b z reach_a (subst (λ ds. Uses x ds z) e uses))
  most dice z (inr (inr (inr (inr e)))) uses =
      absurd (none_more b a z reach_b (subst (λ ds. Uses x ds z) e uses))

-- a run of two different dice leads where the most dice lead
run_most : (v : Throw) (a b : Die) (x y : Board) → Shows v a b → Run x (a ∷ b ∷ []) y →
    MostDice x v y
run_most v a b x y shows (inl still) = record {
  used = [];
  offered = no_die refl;
  uses = still.1;
  most = λ dice z offer uses. none dice z uses;
  greater = λ d e z one _ _. absurd (cc);
} where
  none : (dice : List Die) (z : Board) → Uses x dice z → length dice ≤ 0
  none [] z uses = omega arith
  none (d ∷ dice) z (u, (goes, rest)) = absurd (no_step x d u still.0 goes)
run_most v a b x y shows (inr (unfinished, (z, (first, inr (_, (u, (second, same))))))) =
    both_used v a b x y shows shows.both (z, (first, (u, (second, same))))
run_most v a b x y shows (inr (unfinished, (z, (first, inl (none, same))))) =
    by (bears_last x a z none first)
  where
    by : BearsLast x a z → MostDice x v y
    by l = ⊎_elim
        (λ below.
        both_used_reversed v a b x y shows
        (last_by_two x l.point a b y l.last l.reach below (same ∙ l.to)))
        (λ reach. ⊎_elim
        (λ le.
        one_used v a b a x y l.point shows shows.alone (omega arith) le l.last l.reach reach
        (same ∙ l.to))
        (λ le.
        one_used v a b b x y l.point shows shows.other_alone le (omega arith) l.last l.reach
        reach (same ∙ l.to))
        (split (number b) (number a)))
        (cut (number b) l.point)
      where
        cut : (m n : ℕ) → (m < n) ⊎ (n ≤ m)
        cut m n = grind arith

        split : (m n : ℕ) → (m ≤ n) ⊎ (n ≤ m)
        split m n = grind arith

-- a legal play uses the most dice
pub most_of_legal : (x : Board) (v : Throw) (y : Board) → Legal x v y → MostDice x v y
most_of_legal x v y (in_order apart run) =
    run_most v v.first v.second x y (shows_in_order v apart) run
most_of_legal x v y (in_reverse apart run) =
    run_most v v.second v.first x y (shows_in_reverse v apart) run
most_of_legal x v y (double same run) = double_most x v y same run

-- where one die is used and no two can be, the board is empty, and a run of both leads there
one_run : (v : Throw) (a b : Die) (x y : Board) → IsOffered v (a ∷ b ∷ []) →
    ((dice : List Die) (z : Board) → IsOffered v dice → Uses x dice z → length dice ≤ 1) →
    Uses x (a ∷ []) y → Run x (a ∷ b ∷ []) y
one_run v a b x y offered most (z, (goes, same)) = ⊎_elim
    (λ none. uses_run_more (a ∷ []) (b ∷ []) x y (z, (goes, same)) none)
    (λ unfinished. further (playable y b unfinished))
    (finished_or_not y)
  where
    further : (u : Board) × Step y b u → Run x (a ∷ b ∷ []) y
    further (u, second) =
        let two =
        most (a ∷ b ∷ []) u offered
        (z, (goes, (u, (subst (λ w. Step w b u) same second, refl)))) in
        absurd (omega (arith, two))

-- the most dice are a legal play
pub legal_of_most : (x : Board) (v : Throw) (y : Board) → MostDice x v y → Legal x v y
legal_of_most x v y m = by m.used m.offered m.uses m.most
  where
    nothing :
        ((dice : List Die) (z : Board) → IsOffered v dice → Uses x dice z → length dice ≤ 0) →
        ¬ IsFinished x → ⊥
    nothing most unfinished = ⊎_elim
        (λ same.
        let one =
        most (v.first ∷ []) (playable x v.first unfinished).0
        (of_double 1 (omega arith) same refl) (
          (playable x v.first unfinished).0,
          ((playable x v.first unfinished).1, refl),
        ) in
        absurd (omega (arith, one)))
        (λ apart.
        let one =
        most (v.first ∷ []) (playable x v.first unfinished).0 (first_alone apart refl) (
          (
              playable x v.first unfinished).0,
          ((playable x v.first unfinished).1, refl),
        ) in
        absurd (omega (arith, one)))
        (same_die v.first v.second)

    times : (n : ℕ) → n ≤ 4 → v.first ≡ v.second → Uses x (replicate n v.first) y →
        ((dice : List Die) (z : Board) → IsOffered v dice → Uses x dice z → length dice ≤ n) →
        Run x (v.first ∷ v.first ∷ v.first ∷ v.first ∷ []) y
    times n le same uses most = ⊎_elim
        (λ none. uses_run_times n 4 v.first x y le uses none)
        (λ unfinished. ⊎_elim
        (λ all.
        uses_run (replicate 4 v.first) x y
        (subst (λ k. Uses x (replicate k v.first) y) all uses))
        (λ less.
        let more_dice =
        most (replicate (suc n) v.first) (playable y v.first unfinished).0
        (of_double (suc n) less same refl)
        (uses_one_more n v.first x y (playable y v.first unfinished).0 uses
        (playable y v.first unfinished).1) in
        absurd (omega (arith, more_dice, length-replicate (suc n) v.first)))
        (split n le))
        (finished_or_not y)
      where
        split : (n : ℕ) → n ≤ 4 → (n ≡ 4) ⊎ (n < 4)
        split n le = grind arith

    by : (used : List Die) → IsOffered v used → Uses x used y →
        ((dice : List Die) (z : Board) → IsOffered v dice → Uses x dice z →
        length dice ≤ length used) → Legal x v y
    by used (no_die e) uses most = ⊎_elim
        (λ none. subst (Legal x v) (sym (subst (λ ds. Uses x ds y) e uses)) (legal_stays x v none))
        (λ unfinished.
        absurd (nothing
        (λ dice z offer u. subst (λ ds. length dice ≤ length ds) e (most dice z offer u))
        unfinished))
        (finished_or_not x)
    by used (first_alone apart e) uses most =
        in_order apart
        (one_run v v.first v.second x y (both_in_order apart refl)
        (λ dice z offer u. subst (λ ds. length dice ≤ length ds) e (most dice z offer u))
        (subst (λ ds. Uses x ds y) e uses))
    by used (second_alone apart e) uses most =
        in_reverse apart
        (one_run v v.second v.first x y (both_in_reverse apart refl)
        (λ dice z offer u. subst (λ ds. length dice ≤ length ds) e (most dice z offer u))
        (subst (λ ds. Uses x ds y) e uses))
    by used (both_in_order apart e) uses most =
        in_order apart (uses_run (v.first ∷ v.second ∷ []) x y (subst (λ ds. Uses x ds y) e uses))
    by used (both_in_reverse apart e) uses most =
        in_reverse apart
        (uses_run (v.second ∷ v.first ∷ []) x y (subst (λ ds. Uses x ds y) e uses))
    by used (of_double n le same e) uses most =
        double same
        (times n le same (subst (λ ds. Uses x ds y) e uses)
        (λ dice z offer u.
        subst (λ k. length dice ≤ k) (length-replicate n v.first)
        (subst (λ ds. length dice ≤ length ds) e (most dice z offer u))))
