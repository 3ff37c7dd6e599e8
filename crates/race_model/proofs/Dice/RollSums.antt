-- Sums over the 36 throws and over the 21 rolls, also where a list has a part for each roll.
use Rattle.std.proofs.Common.{◌≡◌, ⊎_elim, ℕ, ◌<◌, List, map, length, get_or, sum_by, refl, sym, ap, ◌∙◌, arith}
use Rattle.std.proofs.lemmas.List.{ext_get_or, length-map}
use Rattle.std.proofs.Math.ListN.{get_or-map}
use Rattle.race_model.specs.Prelude.{Throw, one, reversed, all_rolls, roll_at, roll_index, weight, throws, weighted}
use Rattle.race_model.proofs.Numbers.Sums.{sum_by-map}
use Rattle.race_model.proofs.Dice.Throws.{roll_of_index, index_of_roll, roll_index-reversed, roll_or_reversed}

-- there are 21 rolls
pub length-all_rolls : length all_rolls ≡ 21
unfolding all_rolls
length-all_rolls = refl

-- their weights add up to 36
pub sum_by-weight : sum_by weight all_rolls ≡ 36
unfolding all_rolls
sum_by-weight = refl

-- each throw has an index below 21
pub roll_index-range : (v : Throw) → roll_index v < 21
roll_index-range v = ⊎_elim
    (λ is. (index_of_roll v is).0)
    (λ is. omega (arith, (index_of_roll (reversed v) is).0, roll_index-reversed v))
    (roll_or_reversed v)

-- parts that hold something of each roll, in the order of the index, with the weight of the roll
module _ {T : Type 0} (g : ℕ → T) (parts : List (ℕ × T)) (len : length parts ≡ 21)
    (each : (j : ℕ) (d : ℕ × T) → j < 21 → get_or parts j d ≡ (weight (roll_at j), g j)) where
  -- what such a part is
  of_roll : Throw → ℕ × T
  of_roll v = (weight v, g (roll_index v))

  parts_are : parts ≡ map of_roll all_rolls
  unfolding roll_at of_roll
  parts_are =
      let d : Throw = record { first = one; second = one } in
      let long = len ∙ sym (length-map all_rolls of_roll ∙ length-all_rolls) in
      ext_get_or (of_roll d) parts (map of_roll all_rolls) long (λ i lt.
      each i (of_roll d) (omega arith)
      ∙ (ap (λ n. (weight (roll_at i), g n)) (sym (roll_of_index i (omega arith)).1)
      ∙ sym (get_or-map of_roll all_rolls i d)))

  -- a sum over the parts is one over the rolls
  pub parts_sum : (u : ℕ × T → ℕ) →
      sum_by u parts ≡ sum_by (λ v. u (weight v, g (roll_index v))) all_rolls
  unfolding of_roll
  parts_sum u = rw parts_are (sum_by-map u of_roll all_rolls)

-- there are 36 throws
pub length-throws : length throws ≡ 36
unfolding throws
length-throws = refl

-- the sum over the 36 throws of a number that goes by the
-- roll is the weighted sum over the 21 rolls
pub sum_by-throws : (g : ℕ → ℕ) →
    sum_by (λ v. g (roll_index v)) throws ≡ weighted (λ v. g (roll_index v))
unfolding throws all_rolls
sum_by-throws g = omega arith
