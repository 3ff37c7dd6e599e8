-- The results of a throw as a list, by a plain search: slow, with a position as often as there are
-- ways to it, and used by no program. `law_enumerated` says that its members are the results by
-- the rules, so that the rules can be tried out on small positions by computation. Source: the
-- bearing-off rules of backgammon.
use Rattle.std.specs.Prelude.{ℕ, ◌-◌, ◌==◌, nat_lt, if◌then◌else◌, List, [], ◌∷◌, ◌++◌, length, drop, sum, flat_map}
use Rattle.std.specs.List.{range_with_len}
use Rattle.race_model.specs.Positions.{Board, count, checkers, fewer, more}
use Rattle.race_model.specs.Dice.{Die, number, Throw}

-- what a die that shows d makes of x by moving a checker from point s: one position, or none
abbrev pub step_from : Board → ℕ → ℕ → List Board
step_from x d s =
    if count x s == 0 then [] else
    if nat_lt d s then more (fewer x s) (s - d) ∷ [] else
    if s == d then fewer x s ∷ [] else
    if sum (drop s x) == 0 then fewer x s ∷ [] else []

-- what a die that shows d makes of x by moving a checker from any point
abbrev pub all_steps : Board → Die → List Board
all_steps x d = flat_map (step_from x (number d)) (range_with_len 1 (length x))

-- what the dice, one after another, make of x
abbrev pub all_runs : List Die → Board → List Board
all_runs [] x = x ∷ []
all_runs (d ∷ dice) x =
    if checkers x == 0 then x ∷ [] else flat_map (all_runs dice) (all_steps x d)

-- what a throw makes of x
abbrev pub all_results : Board → Throw → List Board
all_results x v =
    if number v.first == number v.second
    then all_runs (v.first ∷ v.first ∷ v.first ∷ v.first ∷ []) x
    else all_runs (v.first ∷ v.second ∷ []) x ++ all_runs (v.second ∷ v.first ∷ []) x
