-- A word is a roll if it is one with or without its hyphen.
use Rattle.std.proofs.Common.{◌≡◌, ◌⊎◌, inl, inr, ℕ, ◌+◌, List, [], ◌∷◌, Option, None, Some, get_or, ap, refl, arith}
use Rattle.std.proofs.Common.{◌↔◌, IfSome, IsSome}
use Rattle.std.proofs.lemmas.Slice.Eq.{text_from_reads}
use Rattle.race_model.specs.Prelude.{Die, Throw, number}
use Rattle.legal_plays.specs.Faces.{roll_of}
use Rattle.legal_plays.specs.Texts.{roll_text}
use Rattle.race_summary.specs.Words.{IsRollWord}
use Rattle.race_summary.proofs.words.read_roll.Goals as goal

-- the roll of a text is that of a word which is the text, or has a hyphen in it
rolled : (text word : List ℕ) (r : Option Throw)
    → (IsSome r ↔ ((a : Die) × (b : Die) × (text ≡ roll_text a b)))
    → ((a b : Die) → text ≡ roll_text a b → IfSome r (λ roll. roll ≡ roll_of a b))
    → ((a b : Die) → text ≡ roll_text a b → (word ≡ roll_text a b)
    ⊎ (word ≡ (48 + number a) ∷ 45 ∷ (48 + number b) ∷ [])) → IfSome r (IsRollWord word)
rolled text word None valid value is = tt
rolled text word (Some v) valid value is =
    let it = valid.0 refl in (it.0, it.1, is it.0 it.1 it.2, value it.0 it.1 it.2)

pub returns-in_default : goal.returns-in_default
returns-in_default c = rolled c.args.text.now c.args.text.now c.parse_roll-in_default.result
    c.parse_roll-in_default.ensures.valid c.parse_roll-in_default.ensures.value (λ a b is. inl is)

pub returns-in-len3 : goal.returns-in-len3
returns-in-len3 c =
    let text = c.args.text.now in
    rolled _ text c.parse_roll.result c.parse_roll.ensures.valid c.parse_roll.ensures.value
    (λ a b is. inr (text_from_reads text ((48 + number a) ∷ 45 ∷ (48 + number b) ∷ [])
    (omega (arith, c.in-len3)) (
      ap (λ t. get_or t 0 0) is,
      (
        c.if-between-eq45.true,
        (ap (λ t. get_or t 1 0) is, tt),
      ),
    )))
