-- The rolls of a strategy over all sequences of m throws, for every m: what a turn adds, and what
-- a throw more does to a game that is over by then. Both are told for the sum of any number that
-- goes by the rolls.
use Rattle.std.proofs.Common.{◌≡◌, ◌≢◌, ℕ, zero, suc, ◌+◌, ◌*◌, ◌^◌, ◌<◌, ◌≤◌, List, [], ◌∷◌}
use Rattle.std.proofs.Common.{length, map, sum_by, cond, eqb, ne_eqb, ◌⊎◌, ⊎_elim, refl, ap, sym}
use Rattle.std.proofs.Common.{subst, ◌∙◌, arith}
use Rattle.std.proofs.Math.Nat.{pow-suc}
use Rattle.std.proofs.Math.Dec.{eqb-suc-suc, eqb-suc-zero}
use mathlib.Core.Path.{fun_ext}
use Rattle.race_model.specs.Prelude.{Board, Throw, throws, Strategy, stop, turn, Fits, rolls, sequences, total_over}
use Rattle.race_model.specs.Prelude.{count_over, IsWithin, EndsIn}
use Rattle.race_model.proofs.Numbers.Sums.{sum_by-map, sum_by-flat_map, sum_by-equal, sum_by-plus}
use Rattle.race_model.proofs.Numbers.Sums.{sum_by-times, sum_by-constant, sum_by-zero}
use Rattle.race_model.proofs.Dice.RollSums.{length-throws}

-- the sum, over all sequences of m throws, of a number that goes by the rolls of a strategy
unfoldable pub over : ℕ → Strategy → (ℕ → ℕ) → ℕ
over m s h = sum_by (λ w. h (rolls s w)) (sequences m)

-- over no throw at all
pub over-none : (s : Strategy) (h : ℕ → ℕ) → over 0 s h ≡ h 0
unfolding over sequences
over-none stop h = omega arith
over-none (turn to next) h = omega arith

-- a throw more makes 36 times as many sequences
one_throw_more : (m : ℕ) → 36 ^ m * 36 ≡ 36 ^ suc m
one_throw_more m = sym (pow-suc 36 m)

-- a sum over the sequences of a throw more, by their first throw
pub sum_by-sequences : (m : ℕ) (g : List Throw → ℕ) →
    sum_by g (sequences (suc m)) ≡ sum_by (λ v. sum_by (λ w. g (v ∷ w)) (sequences m)) throws
unfolding sequences
sum_by-sequences m g =
    sum_by-flat_map g (λ v. map (λ w. v ∷ w) (sequences m)) throws
    ∙ sum_by-equal (λ v. sum_by g (map (λ w. v ∷ w) (sequences m)))
    (λ v. sum_by (λ w. g (v ∷ w)) (sequences m)) throws
    (λ v. sum_by-map g (λ w. v ∷ w) (sequences m))

-- there is one sequence of no throw
one_sequence : sum_by (λ w. 1) (sequences 0) ≡ 1
unfolding sequences
one_sequence = refl

-- there are 36 ^ m sequences of m throws
pub sequence_count : (m : ℕ) → sum_by (λ w. 1) (sequences m) ≡ 36 ^ m
sequence_count zero = one_sequence
sequence_count (suc m) =
    sum_by-sequences m (λ w. 1)
    ∙ sum_by-equal (λ v. sum_by (λ w. 1) (sequences m)) (λ v. 36 ^ m) throws
    (λ v. sequence_count m)
    ∙ sum_by-constant (36 ^ m) throws
    ∙ ap (λ n. 36 ^ m * n) length-throws
    ∙ one_throw_more m

-- a strategy that stops
pub over-stop : (m : ℕ) (h : ℕ → ℕ) → over m stop h ≡ h 0 * 36 ^ m
unfolding over
over-stop m h = sum_by-constant (h 0) (sequences m) ∙ ap (λ n. h 0 * n) count
  where
    count : length (sequences m) ≡ 36 ^ m
    count = omega (arith, sequence_count m, sum_by-constant 1 (sequences m))

-- a number that is 0 at each number of rolls of the strategy
pub over-zeros : (m : ℕ) (s : Strategy) (h : ℕ → ℕ) → ((w : List Throw) → h (rolls s w) ≡ 0) →
    over m s h ≡ 0
unfolding over
over-zeros m s h none = sum_by-zero (λ w. h (rolls s w)) (sequences m) none

-- a turn: the first throw, and then the strategy that goes on
pub over-turn : (m : ℕ) (to : Throw → Board) (next : Throw → Strategy) (h : ℕ → ℕ) →
    over (suc m) (turn to next) h ≡ sum_by (λ v. over m (next v) (λ k. h (suc k))) throws
unfolding over
over-turn m to next h = sum_by-sequences m (λ w. h (rolls (turn to next) w))

-- a throw more, after a game that is over
pub over-more : (m : ℕ) (s : Strategy) (h : ℕ → ℕ) → IsWithin m s →
    over (suc m) s h ≡ 36 * over m s h
over-more m stop h _ =
    omega (arith, over-stop (suc m) h, over-stop m h, ap (λ n. h 0 * n) (one_throw_more m))
over-more zero (turn to next) h within = absurd within
over-more (suc m) (turn to next) h within =
    over-turn (suc m) to next h
    ∙ sum_by-equal (λ v. over (suc m) (next v) (λ k. h (suc k)))
    (λ v. 36 * over m (next v) (λ k. h (suc k))) throws
    (λ v. over-more m (next v) (λ k. h (suc k)) (within v))
    ∙ sum_by-times 36 (λ v. over m (next v) (λ k. h (suc k))) throws
    ∙ ap (λ t. 36 * t) (sym (over-turn m to next h))

-- the rolls, added up
pub total_over-over : (m : ℕ) (s : Strategy) → total_over m s ≡ over m s (λ k. k)
unfolding over total_over
total_over-over m s = refl

-- 1 where two numbers are equal, else 0
abbrev pub one_at : ℕ → ℕ → ℕ
one_at k r = cond (eqb r k) 1 0

-- the sequences in which exactly k rolls are needed
pub count_over-over : (m : ℕ) (s : Strategy) (k : ℕ) → count_over m s k ≡ over m s (one_at k)
unfolding over count_over
count_over-over m s k = refl

-- one roll more in each sequence
one_roll_more : (m : ℕ) (s : Strategy) → over m s (λ k. suc k) ≡ 36 ^ m + total_over m s
unfolding over total_over
one_roll_more m s =
    sum_by-equal (λ w. suc (rolls s w)) (λ w. 1 + rolls s w) (sequences m) (λ w. omega arith)
    ∙ sum_by-plus (λ w. 1) (rolls s) (sequences m)
    ∙ ap (λ n. n + sum_by (rolls s) (sequences m)) (sequence_count m)

-- the rolls of a turn: one for each sequence, and those of its branches
pub total_over-turn : (m : ℕ) (to : Throw → Board) (next : Throw → Strategy) →
    total_over (suc m) (turn to next) ≡ 36 ^ suc m + sum_by (λ v. total_over m (next v)) throws
total_over-turn m to next =
    total_over-over (suc m) (turn to next)
    ∙ over-turn m to next (λ k. k)
    ∙ sum_by-equal (λ v. over m (next v) (λ k. suc k)) (λ v. 36 ^ m + total_over m (next v)) throws
    (λ v. one_roll_more m (next v))
    ∙ sum_by-plus (λ v. 36 ^ m) (λ v. total_over m (next v)) throws
    ∙ ap (λ n. n + sum_by (λ v. total_over m (next v)) throws)
    (sum_by-constant (36 ^ m) throws ∙ ap (λ n. 36 ^ m * n) length-throws ∙ one_throw_more m)

-- a turn needs a roll more than its branch
pub count_over-turn : (m : ℕ) (to : Throw → Board) (next : Throw → Strategy) (k : ℕ) →
    count_over (suc m) (turn to next) (suc k) ≡ sum_by (λ v. count_over m (next v) k) throws
count_over-turn m to next k =
    count_over-over (suc m) (turn to next) (suc k)
    ∙ over-turn m to next (one_at (suc k))
    ∙ sum_by-equal (λ v. over m (next v) (λ r. one_at (suc k) (suc r)))
    (λ v. count_over m (next v) k) throws
    (λ v.
    ap (over m (next v)) (fun_ext (λ r. ap (λ b. cond b 1 0) (eqb-suc-suc r k)))
    ∙ sym (count_over-over m (next v) k))

-- a turn is never over without a roll
pub count_over-turn_none : (m : ℕ) (to : Throw → Board) (next : Throw → Strategy) →
    count_over (suc m) (turn to next) 0 ≡ 0
count_over-turn_none m to next =
    count_over-over (suc m) (turn to next) 0
    ∙ over-turn m to next (one_at 0)
    ∙ sum_by-zero (λ v. over m (next v) (λ r. one_at 0 (suc r))) throws
    (λ v.
    over-zeros m (next v) (λ r. one_at 0 (suc r))
    (λ w. ap (λ b. cond b 1 0) (eqb-suc-zero (rolls (next v) w))))

-- a throw more makes 36 times as many rolls, where the game is over by then
pub total_over-more : (m : ℕ) (s : Strategy) → IsWithin m s →
    total_over (suc m) s ≡ 36 * total_over m s
total_over-more m s within =
    total_over-over (suc m) s ∙ over-more m s (λ k. k) within
    ∙ ap (λ t. 36 * t) (sym (total_over-over m s))

-- a throw more makes 36 times as many sequences for each number of rolls
pub count_over-more : (m : ℕ) (s : Strategy) (k : ℕ) → IsWithin m s →
    count_over (suc m) s k ≡ 36 * count_over m s k
count_over-more m s k within =
    count_over-over (suc m) s k ∙ over-more m s (one_at k) within
    ∙ ap (λ t. 36 * t) (sym (count_over-over m s k))

-- a strategy that fits is over when each game is
pub fits_within : (n : ℕ) (x : Board) (s : Strategy) → EndsIn n x → Fits s x → IsWithin n s
fits_within n x stop ends fits = tt
fits_within zero x (turn to next) ends fits = absurd (fits.0 ends)
fits_within (suc n) x (turn to next) ends fits =
    λ v. fits_within n (to v) (next v) (ends fits.0 v (to v) (fits.1 v).0) (fits.1 v).1

-- at most n turns are at most n + 1
pub within_more : (n : ℕ) (s : Strategy) → IsWithin n s → IsWithin (suc n) s
within_more n stop w = tt
within_more zero (turn to next) w = absurd w
within_more (suc n) (turn to next) w = λ v. within_more n (next v) (w v)

-- at most n turns are at most m, where n is at most m
pub within_up : (n m : ℕ) (s : Strategy) → n ≤ m → IsWithin n s → IsWithin m s
within_up n zero s h w = subst (λ k. IsWithin k s) (none n h) w
  where
    none : (n : ℕ) → n ≤ 0 → n ≡ 0
    none n h = omega arith
within_up n (suc m) s h w =
    ⊎_elim (λ less. within_more m s (within_up n m s less w))
    (λ same. subst (λ k. IsWithin k s) same w) (last n m h)
  where
    last : (n m : ℕ) → n ≤ suc m → (n ≤ m) ⊎ (n ≡ suc m)
    last n m h = grind arith

-- at most n turns need at most n rolls
pub rolls-within : (n : ℕ) (s : Strategy) (w : List Throw) → IsWithin n s → rolls s w ≤ n
rolls-within n stop w h = omega arith
rolls-within n (turn to next) [] h = omega arith
rolls-within zero (turn to next) (v ∷ w) h = absurd h
rolls-within (suc n) (turn to next) (v ∷ w) h =
    let rest = rolls-within n (next v) w (h v) in omega (arith, rest)

-- a game that is over within n rolls never needs more
pub count_over-beyond : (m n k : ℕ) (s : Strategy) → IsWithin n s → n < k → count_over m s k ≡ 0
count_over-beyond m n k s h beyond =
    count_over-over m s k
    ∙ over-zeros m s (one_at k)
    (λ w.
    ap (λ b. cond b 1 0) (ne_eqb (rolls s w) k (apart (rolls s w) (rolls-within n s w h))))
  where
    apart : (r : ℕ) → r ≤ n → r ≢ k
    apart r le = omega arith
