-- What the parts of a text tell, of which a few are kept.
use Rattle.std.proofs.Common.{◌≡◌, ◌≢◌, ◌≤◌, ◌==◌, ◌∙◌, ℕ, List, true, false, Option, Some, None, MatchOption}
use Rattle.std.proofs.Common.{length, take, sym, ap, subst, arith, ⊎_elim}
use Rattle.std.proofs.Math.Seq.{take_all}
use Rattle.std.proofs.lemmas.Bool.{eq-eqb, ne_eqb}
use Rattle.notation.specs.declared.told.Told.{Told}
use Rattle.notation.specs.Parts.{parts}
use Rattle.notation.specs.Xgids.{IsXgid}
use Rattle.notation.specs.Readings.{fields, AreIds, TellsAs, Tells}
use Rattle.notation.proofs.Pieces.{all_of}

-- a reader's result is what is told, and none where nothing is told
abbrev Gives : Option Told → (Told → Type 0) → Type 0
Gives r P = MatchOption r ((told : Told) → ¬ P told) P

-- with ten fields the text is an XGID
pub tells_xgid : (text : List ℕ) (r : Option Told) (few : List (List ℕ)) →
    few ≡ take 11 (fields text) →
    length few ≡ 10 → Gives r (IsXgid few) → Gives r (Tells text)
tells_xgid text r few e ten h =
    let same : few ≡ fields text = all_of (fields text) few e (omega (arith, ten)) in
    let t : (length (fields text) == 10) ≡ true = eq-eqb _ _ (sym (ap length same) ∙ ten) in
    subst (λ b. Gives r (TellsAs b text)) (sym t) (subst (λ p. Gives r (IsXgid p)) same h)

-- there are one or two words
few_ids : (words : List (List ℕ)) (told : Told) → AreIds words told → length words ≤ 2
few_ids words told is =
    ⊎_elim (λ one. omega (arith, ap length is.first, ap length one.0))
    (λ two. omega (arith, ap length is.first, ap length two.second)) is.rest

-- with more or fewer it is IDs
pub tells_ids : (text : List ℕ) (r : Option Told) (few words : List (List ℕ)) →
    few ≡ take 11 (fields text) → length few ≢ 10 → words ≡ take 11 (parts true text) →
    Gives r (AreIds words) → Gives r (Tells text)
tells_ids text r few words e not_ten w h =
    let all : length (fields text) ≢ 10 = λ ten. not_ten (ap length e
    ∙ ap length (take_all 11 (fields text) (omega (arith, ten))) ∙ ten) in
    let t : (length (fields text) == 10) ≡ false = ne_eqb _ _ all in
    subst (λ b. Gives r (TellsAs b text)) (sym t) (by r h)
  where
    by : (r : Option Told) → Gives r (AreIds words) → Gives r (AreIds (parts true text))
    by None none = λ told is.
        none told (subst (λ p. AreIds p told)
        (sym (w ∙ take_all 11 (parts true text) (omega (arith, few_ids _ told is)))) is)
    by (Some told) is =
        subst (λ p. AreIds p told)
        (all_of (parts true text) words w (omega (arith, few_ids _ told is))) is
