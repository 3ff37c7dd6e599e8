-- The totals and counts over all sequences of m throws: what a strategy that stops has, and what a
-- turn adds before strategies that are over a throw sooner.
use Rattle.std.proofs.Common.{◌≡◌, ℕ, suc, ◌+◌, ◌*◌, ◌^◌, sum_by, cond, ap, ◌∙◌, arith}
use Rattle.std.proofs.Math.Dec.{eqb-zero-suc}
use Rattle.race_model.specs.Prelude.{Board, Throw, throws, Strategy, stop, turn, total_over, count_over, IsWithin}
use Rattle.race_model.proofs.Numbers.Sums.{sum_by-equal, sum_by-times}
use Rattle.race_model.proofs.Strategies.Histories.{over-stop, total_over-over, count_over-over}
use Rattle.race_model.proofs.Strategies.Histories.{one_at, total_over-turn, count_over-turn}
use Rattle.race_model.proofs.Strategies.Histories.{total_over-more, count_over-more}

-- a turn before strategies of at most m turns, over one throw more
pub total_over-turn_times_36 : (m : ℕ) (to : Throw → Board) (next : Throw → Strategy) →
    ((v : Throw) → IsWithin m (next v)) →
    36 * total_over (suc m) (turn to next)
    ≡ 36 * 36 ^ suc m + sum_by (λ v. total_over (suc m) (next v)) throws
total_over-turn_times_36 m to next within =
    let first = total_over-turn m to next in
    let scaled =
    sum_by-equal (λ v. total_over (suc m) (next v)) (λ v. 36 * total_over m (next v)) throws
    (λ v. total_over-more m (next v) (within v)) in
    let out = sum_by-times 36 (λ v. total_over m (next v)) throws in
    omega (arith, first, scaled, out)

-- the counts of a turn before strategies of at most m turns, over one throw more
pub count_over-turn_times_36 : (m : ℕ) (to : Throw → Board) (next : Throw → Strategy) (k : ℕ) →
    ((v : Throw) → IsWithin m (next v)) →
    36 * count_over (suc m) (turn to next) (suc k)
    ≡ sum_by (λ v. count_over (suc m) (next v) k) throws
count_over-turn_times_36 m to next k within =
    let first = count_over-turn m to next k in
    let scaled =
    sum_by-equal (λ v. count_over (suc m) (next v) k) (λ v. 36 * count_over m (next v) k)
    throws (λ v. count_over-more m (next v) k (within v)) in
    let out = sum_by-times 36 (λ v. count_over m (next v) k) throws in
    omega (arith, first, scaled, out)

-- a strategy that stops needs no roll
pub total_over-stop : (m : ℕ) → total_over m stop ≡ 0
total_over-stop m = total_over-over m stop ∙ over-stop m (λ k. k) ∙ omega arith

-- a strategy that stops needs no roll in each sequence
pub count_over-stop : (m : ℕ) → count_over m stop 0 ≡ 36 ^ m
count_over-stop m = count_over-over m stop 0 ∙ over-stop m (one_at 0) ∙ omega arith

-- a strategy that stops never needs a roll
pub count_over-stop_more : (m k : ℕ) → count_over m stop (suc k) ≡ 0
count_over-stop_more m k =
    count_over-over m stop (suc k) ∙ over-stop m (one_at (suc k))
    ∙ ap (λ b. cond b 1 0 * 36 ^ m) (eqb-zero-suc k) ∙ omega arith
