-- The rolls of the sample, by computation over 36 and 1,296
-- sequences, and from there over those of 22 throws.
use Rattle.std.proofs.Common.{Bool, true, false, cond, leb, ◌≡◌, ℕ, zero, suc, ◌*◌, ◌^◌, refl, ap, ◌∙◌, arith}
use Rattle.std.proofs.Math.Nat.{pow-suc}
use Rattle.race_model.specs.Prelude.{Throw, throws, finished, whole, Strategy, stop, turn, sequences, total_over}
use Rattle.race_model.specs.Prelude.{count_over, total, count_of, IsWithin, worth, from_six_point}
use Rattle.race_model.proofs.Strategies.Histories.{total_over-more, count_over-more, within_more}

-- over two throws the mean is 5/4: 1,620 rolls in 1,296 sequences
pub sample_total : total_over 2 from_six_point ≡ 1620
unfolding total_over sequences throws from_six_point
sample_total = refl

-- one roll is enough in 3/4 of them
pub sample_one : count_over 2 from_six_point 1 ≡ 972
unfolding count_over sequences throws from_six_point
sample_one = refl

-- and two are needed in the others
pub sample_two : count_over 2 from_six_point 2 ≡ 324
unfolding count_over sequences throws from_six_point
sample_two = refl

-- so many throws after two
abbrev after_two : ℕ → ℕ
after_two zero = 2
after_two (suc k) = suc (after_two k)

-- a throw more
one_more : (k t : ℕ) → 36 * (36 ^ k * t) ≡ 36 ^ suc k * t
one_more k t =
    let e : 36 ^ suc k * t ≡ 36 ^ k * 36 * t = ap (λ a. a * t) (pow-suc 36 k) in omega (arith, e)

-- a strategy of at most two turns
module _ (s : Strategy) (within : IsWithin 2 s) where
  -- it has at most as many turns as there are throws
  still_within : (k : ℕ) → IsWithin (after_two k) s
  still_within zero = within
  still_within (suc k) = within_more (after_two k) s (still_within k)

  -- its total over more throws
  total_over-after_two : (k : ℕ) → total_over (after_two k) s ≡ 36 ^ k * total_over 2 s
  total_over-after_two zero = omega arith
  total_over-after_two (suc k) =
      total_over-more (after_two k) s (still_within k) ∙ ap (λ t. 36 * t) (total_over-after_two k)
      ∙ one_more k (total_over 2 s)

  -- its counts over more throws
  count_over-after_two : (k n : ℕ) → count_over (after_two k) s n ≡ 36 ^ k * count_over 2 s n
  count_over-after_two zero n = omega arith
  count_over-after_two (suc k) n =
      count_over-more (after_two k) s n (still_within k)
      ∙ ap (λ t. 36 * t) (count_over-after_two k n) ∙ one_more k (count_over 2 s n)

-- the sample has at most two turns on any path
sample_within : IsWithin 2 from_six_point
unfolding from_six_point
sample_within = λ v. branch v (leb 6 (worth v))
  where
    branch : (v : Throw) (b : Bool) → IsWithin 1 (cond b stop (turn (λ _. finished) (λ _. stop)))
    branch v true = tt
    branch v false = λ w. tt

-- its mean is 5/4
pub sample_mean : 4 * total from_six_point ≡ 5 * whole
unfolding whole
sample_mean = omega (arith, total_over-after_two from_six_point sample_within 20, sample_total)

-- its chance of one roll is 3/4, and that of two is 1/4
pub sample_share_of_one : 4 * count_of from_six_point 1 ≡ 3 * whole
unfolding whole
sample_share_of_one =
    omega (arith, count_over-after_two from_six_point sample_within 20 1, sample_one)

-- its chance of two rolls is 1/4
pub sample_share_of_two : 4 * count_of from_six_point 2 ≡ whole
unfolding whole
sample_share_of_two =
    omega (arith, count_over-after_two from_six_point sample_within 20 2, sample_two)
