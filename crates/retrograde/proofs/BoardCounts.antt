-- The counts of a record, written by rising numbers of throws.
use Rattle.std.proofs.Common.{◌≡◌, ⊎_elim, ℕ, suc, ◌+◌, ◌*◌, ◌^◌, ◌<◌, ◌≤◌, List, ap}
use Rattle.std.proofs.Common.{sym, subst, ◌∙◌, arith}
use Rattle.std.proofs.lemmas.Bool.{cases_lt}
use Rattle.race_model.specs.Prelude.{Parts, value_of_parts, count_place, count_parts}
use Rattle.race_model.proofs.RightFiles.CountParts.{parts_of}
use Rattle.db_layout.specs.BoardRecords.{KeepsBefore}
use Rattle.db_layout.proofs.SameFronts.{count-agree}

-- one count more
module _ (old new : List ℕ) (k upper lower : ℕ) (kept : KeepsBefore (count_place (k + 1)) old new)
    (is : count_parts new (k + 1) ≡ parts_of upper lower) where
  earlier : (j : ℕ) → 1 ≤ j → j ≤ k → count_parts new j ≡ count_parts old j
  earlier j some le =
      count-agree new old (count_place (k + 1)) kept.bytes j some (rises (j + 1) (k + 1)
      (omega arith))
    where
      rises : (a b : ℕ) → a ≤ b → count_place a ≤ count_place b
      rises a b le = omega arith

  -- all are written
  pub written-next : ((j : ℕ) → 11 < j → j ≤ k → (count_parts old j).lower < 36 ^ 11) →
      (11 ≤ k → lower < 36 ^ 11) → (j : ℕ) → 11 < j → j ≤ k + 1 →
      (count_parts new j).lower < 36 ^ 11
  written-next before here j many le = ⊎_elim
      (λ less.
      subst (λ (parts : Parts). parts.lower < 36 ^ 11) (sym (earlier j (omega arith) (omega arith)))
      (before j many (omega arith)))
      (λ last.
      let e : k + 1 ≡ j = omega arith in
      subst (λ n. (count_parts new n).lower < 36 ^ 11) e
      (subst (λ (parts : Parts). parts.lower < 36 ^ 11) (sym is) (here (omega arith))))
      (cases_lt j (k + 1))

  -- all that are written have their values
  pub value-next : (value : ℕ → ℕ) →
      ((j : ℕ) → j < k → value_of_parts (count_parts old (suc j)) ≡ value j) →
      upper * 36 ^ 11 + lower ≡ value k → (j : ℕ) → j < k + 1 →
      value_of_parts (count_parts new (suc j)) ≡ value j
  value-next value before here j under = ⊎_elim
      (λ less. ap value_of_parts (earlier (suc j) (omega arith) (omega arith)) ∙ before j less)
      (λ last.
      let e : k ≡ j = omega arith in
      subst (λ n. value_of_parts (count_parts new (suc n)) ≡ value n) e
      (ap value_of_parts (ap (count_parts new) next ∙ is) ∙ here))
      (cases_lt j k)
    where
      next : suc k ≡ k + 1
      next = omega arith
