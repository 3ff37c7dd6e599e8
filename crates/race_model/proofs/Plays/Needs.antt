-- How many steps by one die a position needs: for each checker its point over the die, rounded up.
-- Each step by that die lowers this by exactly one, so no play of one die to the empty board is
-- longer than another.
use Rattle.std.proofs.Common.{◌≡◌, ◌⊎◌, ⊎_elim, ℕ, zero, suc, ◌+◌, ◌-◌, ◌*◌, ◌/◌, ◌<◌, ◌≤◌, List}
use Rattle.std.proofs.Common.{[], ◌∷◌, length, get_or, set, sum, replicate, refl, sym, subst, arith}
use Rattle.race_model.specs.Prelude.{Board, IsFinished, checkers, fewer, more, Die, one, two, three, four, five, six}
use Rattle.race_model.specs.Prelude.{number, Step, bear_off, move_down, from_highest}
use Rattle.race_model.specs.Positions.{count}
use Rattle.race_model.proofs.Positions.Points.{on_board}
use Rattle.race_model.proofs.Numbers.Sums.{sum-cons, zeros_of_sum}
use Rattle.race_model.proofs.Plays.Steps.{occupied_place, one_fewer, less_one, one_more_of}

-- a point over a die, rounded up
abbrev pub steps_from : Die → ℕ → ℕ
steps_from one p = p
steps_from two p = (p + 1) / 2
steps_from three p = (p + 2) / 3
steps_from four p = (p + 3) / 4
steps_from five p = (p + 4) / 5
steps_from six p = (p + 5) / 6

-- a checker that moves down by the die needs a step fewer
steps_from-moved : (d : Die) (s : ℕ) → number d < s →
    steps_from d (s - number d) + 1 ≡ steps_from d s
steps_from-moved one s h = omega arith
steps_from-moved two s h = omega arith
steps_from-moved three s h = omega arith
steps_from-moved four s h = omega arith
steps_from-moved five s h = omega arith
steps_from-moved six s h = omega arith

-- a checker on the die's point or a lower one needs one
pub steps_from-off : (d : Die) (s : ℕ) → 0 < s → s ≤ number d → steps_from d s ≡ 1
steps_from-off one s h le = omega arith
steps_from-off two s h le = omega arith
steps_from-off three s h le = omega arith
steps_from-off four s h le = omega arith
steps_from-off five s h le = omega arith
steps_from-off six s h le = omega arith

-- each checker needs a step
steps_from-positive : (d : Die) (p : ℕ) → 0 < steps_from d (suc p)
steps_from-positive one p = omega arith
steps_from-positive two p = omega arith
steps_from-positive three p = omega arith
steps_from-positive four p = omega arith
steps_from-positive five p = omega arith
steps_from-positive six p = omega arith

-- the steps that the points from p on need
abbrev pub needs_from : Die → ℕ → List ℕ → ℕ
needs_from d p [] = 0
needs_from d p (c ∷ cs) = steps_from d p * c + needs_from d (suc p) cs

-- the steps that a position needs
abbrev pub needs : Die → Board → ℕ
needs d x = needs_from d 1 x

-- the steps that a position needs after a write to the point q
needs_from-set : (d : Die) (p : ℕ) (x : List ℕ) (i q v : ℕ) → p + i ≡ q → i < length x →
    needs_from d p (set x i v) + steps_from d q * get_or x i 0
    ≡ needs_from d p x + steps_from d q * v
needs_from-set d p [] i q v e h = absurd (omega arith)
needs_from-set d p (c ∷ cs) zero q v e h =
    let same : p ≡ q = omega arith in
    subst
    (λ r.
    steps_from d p * v + needs_from d (suc p) cs + steps_from d r * c
    ≡ steps_from d p * c + needs_from d (suc p) cs + steps_from d r * v) same
    (omega arith)
needs_from-set d p (c ∷ cs) (suc i) q v e h =
    let rest = needs_from-set d (suc p) cs i q v (omega arith) (omega arith) in omega (arith, rest)

-- the steps that a position needs after one checker is taken away
pub needs-fewer : (d : Die) (x : Board) (s : ℕ) → 0 < count x s →
    needs d (fewer x s) + steps_from d s ≡ needs d x
needs-fewer d x zero h = absurd (omega arith)
needs-fewer d x (suc i) h =
    less_one (needs d (set x i (get_or x i 0 - 1))) (needs d x) (steps_from d (suc i))
    (get_or x i 0) h
    (needs_from-set d 1 x i (suc i) (get_or x i 0 - 1) (omega arith) (on_board x i h))

-- the steps that a position needs after one checker is put
needs-more : (d : Die) (x : Board) (i : ℕ) → i < length x →
    needs d (more x (suc i)) ≡ needs d x + steps_from d (suc i)
needs-more d x i place =
    one_more_of (needs d (set x i (get_or x i 0 + 1))) (needs d x) (steps_from d (suc i))
    (get_or x i 0) (needs_from-set d 1 x i (suc i) (get_or x i 0 + 1) (omega arith) place)

-- a checker moved down by the die
needs-moved : (d : Die) (x : Board) (s t : ℕ) → 0 < t → t + number d ≡ s → 0 < count x s →
    needs d (more (fewer x s) t) + 1 ≡ needs d x
needs-moved d x s zero positive e occupied = absurd (omega arith)
needs-moved d x s (suc i) positive e occupied =
    let taken = needs-fewer d x s occupied in
    let same = (one_fewer x s occupied).same_length in
    let inside = occupied_place x s occupied in
    let put = needs-more d (fewer x s) i (omega (arith, same, inside.1)) in
    let fewer_steps =
    subst (λ t. steps_from d t + 1 ≡ steps_from d s) (less_number (suc i) (number d) s e)
    (steps_from-moved d s (omega arith)) in
    omega (arith, taken, put, fewer_steps)
  where
    less_number : (t n s : ℕ) → t + n ≡ s → s - n ≡ t
    less_number t n s e = omega arith

-- where all points from n on are empty, a point with a checker is no higher
pub under : (x : Board) (s n : ℕ) → ((p : ℕ) → n ≤ p → count x p ≡ 0) → 0 < count x s → s ≤ n
under x s n empty occupied =
    ⊎_elim (λ le. le) (λ above. absurd (none (count x s) (empty s above) occupied)) (split s n)
  where
    split : (s n : ℕ) → (s ≤ n) ⊎ (n ≤ s)
    split s n = grind arith

    none : (c : ℕ) → c ≡ 0 → 0 < c → ⊥
    none c e h = omega arith

-- each step by the die lowers the need by one
pub needs-step : (d : Die) (x y : Board) → Step x d y → needs d y + 1 ≡ needs d x
needs-step d x y (s, bear_off at occupied to) =
    let taken = needs-fewer d x s occupied in
    let once = steps_from-off d s (occupied_place x s occupied).0 (omega arith) in
    subst (λ z. needs d z + 1 ≡ needs d x) (sym to) (omega (arith, taken, once))
needs-step d x y (s, move_down below occupied to) =
    subst (λ z. needs d z + 1 ≡ needs d x) (sym to)
    (needs-moved d x s (s - number d) (omega arith) (omega arith) occupied)
needs-step d x y (s, from_highest empty top to) =
    let taken = needs-fewer d x s top.occupied in
    let once =
    steps_from-off d s (occupied_place x s top.occupied).0
    (under x s (number d) empty top.occupied) in
    subst (λ z. needs d z + 1 ≡ needs d x) (sym to) (omega (arith, taken, once))

-- the finished position needs no step
pub needs-none : (d : Die) (x : Board) → IsFinished x → needs d x ≡ 0
needs-none d x none = subst (λ y. needs d y ≡ 0) (sym (zeros_of_sum x none)) (zeros d 1 (length x))
  where
    zeros : (d : Die) (p n : ℕ) → needs_from d p (replicate n 0) ≡ 0
    zeros d p zero = refl
    zeros d p (suc n) = omega (arith, zeros d (suc p) n)

-- a position that needs no step is finished
pub finished_of_needs : (d : Die) (x : Board) → needs d x ≡ 0 → IsFinished x
finished_of_needs d x none = at_most (checkers x) (needs d x) (each 0 x) none
  where
    at_most : (a b : ℕ) → a ≤ b → b ≡ 0 → a ≡ 0
    at_most a b le e = omega arith

    each : (p : ℕ) (x : List ℕ) → sum x ≤ needs_from d (suc p) x
    each p [] = omega arith
    each p (c ∷ cs) =
        covered (steps_from d (suc p)) c (sum cs) (needs_from d (suc (suc p)) cs) (sum (c ∷ cs))
        (steps_from-positive d p) (sum-cons c cs) (each (suc p) cs)
      where
        covered : (k c s t u : ℕ) → 0 < k → u ≡ c + s → s ≤ t → u ≤ k * c + t
        covered zero c s t u h e le = absurd (omega arith)
        covered (suc k) c s t u h e le = omega arith
