-- The six dice: they are told apart by their numbers, which are at least 1.
use Rattle.std.proofs.Common.{◌≡◌, ◌≢◌, ◌⊎◌, inl, inr, ⊎_elim, ℕ, zero, suc, ◌<◌, Bool, true, ◌&&◌}
use Rattle.std.proofs.Common.{eqb, refl, sym, ap, ◌∙◌, arith, eqb-true}
use Rattle.std.proofs.lemmas.Bool.Decides.{eqb_tells}
use Rattle.race_model.specs.Prelude.{Die, one, two, three, four, five, six, number, Throw}
use Rattle.race_model.proofs.Numbers.Tests.{both_tests}

-- a die shows at least 1
pub number_positive : (d : Die) → 0 < number d
number_positive one = omega arith
number_positive two = omega arith
number_positive three = omega arith
number_positive four = omega arith
number_positive five = omega arith
number_positive six = omega arith

-- the die that shows a number, where one does
die_showing : ℕ → Die
die_showing (suc zero) = one
die_showing (suc (suc zero)) = two
die_showing (suc (suc (suc zero))) = three
die_showing (suc (suc (suc (suc zero)))) = four
die_showing (suc (suc (suc (suc (suc zero))))) = five
die_showing n = six

-- the die that shows the number of a die is that die
die_showing-number : (d : Die) → die_showing (number d) ≡ d
unfolding die_showing
die_showing-number one = refl
die_showing-number two = refl
die_showing-number three = refl
die_showing-number four = refl
die_showing-number five = refl
die_showing-number six = refl

-- dice that show the same number are the same
pub same_number : (a b : Die) → number a ≡ number b → a ≡ b
same_number a b e = sym (die_showing-number a) ∙ ap die_showing e ∙ die_showing-number b

-- dice that differ show different numbers
pub numbers_apart : (a b : Die) → a ≢ b → number a ≢ number b
numbers_apart a b apart e = apart (same_number a b e)

-- two dice show the same or not
pub same_die : (a b : Die) → (a ≡ b) ⊎ (a ≢ b)
same_die a b =
    ⊎_elim (λ same. inl (same_number a b same.1)) (λ apart. inr (λ e. apart.1 (ap number e)))
    (eqb_tells (number a) (number b))

-- the two throws show the same dice in the same order
abbrev pub is_throw : Throw → Throw → Bool
is_throw v u = eqb (number v.first) (number u.first) && eqb (number v.second) (number u.second)

-- two throws with the same dice in the same order are the same throw
pub same_throw : (v u : Throw) → is_throw v u ≡ true → v ≡ u
same_throw v u e =
    let parts =
    both_tests (eqb (number v.first) (number u.first))
    (eqb (number v.second) (number u.second)) e in
    let first = same_number v.first u.first (eqb-true _ _ parts.0) in
    let second = same_number v.second u.second (eqb-true _ _ parts.1) in
    λ i. record { first = first i; second = second i }
