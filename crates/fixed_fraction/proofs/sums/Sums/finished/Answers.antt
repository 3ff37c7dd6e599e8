use Rattle.std.proofs.Common.{◌≡◌, ⊎_elim, ℕ, zero, suc, ◌≤◌, ◌∷◌, replicate, get_or, refl, arith}
use Rattle.std.proofs.lemmas.Bool.{cases_lt}
use Rattle.std.proofs.lemmas.List.{get_or_past, get_or-replicate}
use Rattle.race_model.specs.Prelude.{whole}
use Rattle.fixed_fraction.proofs.sums.Sums.finished.Goals as goal

-- there is no other share
others : (n k : ℕ) → 1 ≤ k → get_or (n ∷ replicate 22 0) k 0 ≡ 0
others n zero le = absurd (omega (arith, le))
others n (suc k) le = ⊎_elim
    (λ few. get_or-replicate {A = ℕ} 22 k 0 0 few)
    (λ past. get_or_past (replicate 22 0) k 0 past)
    (cases_lt k 22)

pub invariant_of-result : goal.invariant_of-result
unfolding whole
invariant_of-result c = (record { len = refl; mean = omega arith; shares = refl }, others _)
