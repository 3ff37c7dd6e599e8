-- Words that stand among some, and numbers that words write.
use Rattle.std.proofs.Common.{◌≡◌, ◌∙◌, Bool, true, false, zero, suc, refl, sym, subst, cond, true≢false, List, [], ◌∷◌}
use Rattle.std.proofs.Common.{arith, ◌==◌, ◌<◌, ◌≤◌, ◌^◌, not, ℕ, ap, rules, drop, Option, Some, None, Result, Ok, Err}
use Rattle.std.proofs.Common.{pos}
use Rattle.std.specs.List.{Contains}
use Rattle.std.specs.Str.{bytes_eq}
use Rattle.std.proofs.lemmas.Slice.Eq.{bytes_eq-Decides}
use Rattle.command_line.specs.Asked.{Text, flagged, is_word, IsPlain, Writes}
use Rattle.db_layout.specs.declared.stated.Kind.{Kind}
use Rattle.db_layout.specs.declared.stated.Kind.TheVariants.{Database, Board}
use Rattle.std.specs.Option.{unwrap_or}
use Rattle.std.specs.Str.Parse.{IsNumeral, ParsesUnsigned, digits_value, without_leading_plus}
use Rattle.std.proofs.lemmas.Bool.{ne_eqb}
use Rattle.std.proofs.lemmas.Str.Parse.{digit_from_value}
use Rattle.clap.specs.Lexer.{without_minus}
use Rattle.clap.specs.Values.{IsSignedIn}
use Rattle.clap.specs.ValueTests.{accepts}
use Rattle.clap.proofs.ValueTestLemmas.{Accepts-accepts}
use Rattle.clap.specs.Matches.{ReadsOne}
use Rattle.clap.specs.declared.builder.value_parser.ValueParser.TheVariants as vp

contained_by : (word text : Text) (rest : List Text) (b : Bool) → bytes_eq word text ≡ b
    → (is_word rest text ≡ true → Contains rest text)
    → cond b true (is_word rest text) ≡ true → Contains (word ∷ rest) text
contained_by word text rest true same later is =
    (0, omega arith, (bytes_eq-Decides word text).0 same)
contained_by word text rest false other later is =
    let there = later is in (suc there.0, omega (arith, there.1), there.2)

-- a text that the test finds is there
pub contained : (words : List Text) (text : Text) → is_word words text ≡ true → Contains words text
contained [] text is = absurd (true≢false (sym is))
contained (word ∷ rest) text is =
    contained_by word text rest (bytes_eq word text) refl (contained rest text) is

found_by : (word text : Text) (rest : List Text) (b : Bool) → bytes_eq word text ≡ b
    → (Contains rest text → is_word rest text ≡ true) → Contains (word ∷ rest) text
    → cond b true (is_word rest text) ≡ true
found_by word text rest true same later there = refl
found_by word text rest false other later (zero, low, is) =
    absurd (true≢false (sym ((bytes_eq-Decides word text).1 is) ∙ other))
found_by word text rest false other later (suc k, low, is) = later (k, omega arith, is)

-- a text that is there is found
pub found : (words : List Text) (text : Text) → Contains words text → is_word words text ≡ true
found [] text (k, low, is) = absurd (omega arith)
found (word ∷ rest) text there =
    found_by word text rest (bytes_eq word text) refl (found rest text) there

-- what is one of the words that are given is one of those that are the same
pub among : (words given : List Text) (text : Text) → words ≡ given → Contains given text
    → Contains words text
among words given text same there = subst (λ ws. Contains ws text) (sym same) there

-- the first, the second and the third word
pub first_of_them : (x : Text) (rest : List Text) → Contains (x ∷ rest) x
first_of_them x rest = (0, omega arith, refl)

pub second_of_them : (x y : Text) (rest : List Text) → Contains (x ∷ y ∷ rest) y
second_of_them x y rest = (1, omega arith, refl)

pub third_of_them : (x y z : Text) (rest : List Text) → Contains (x ∷ y ∷ z ∷ rest) z
third_of_them x y z rest = (2, omega arith, refl)

-- a file stands behind `--board` or alone
pub flagged_file : (kind : Kind) (path : Text) → Contains (flagged kind (path ∷ [])) path
flagged_file Database path = (0, omega arith, refl)
flagged_file Board path = (1, omega arith, refl)

-- ---- Numbers that words write

no_minus : (d : ℕ) (ds : List ℕ) → IsNumeral 10 (d ∷ ds) → (d == 45) ≡ false
no_minus d ds h = ne_eqb _ _ (λ e. omega (arith, digit_from_value d h.1.0))

no_plus : (ds : List ℕ) → IsNumeral 10 ds → without_leading_plus ds ≡ ds
no_plus [] h = refl
no_plus (d ∷ ds) h =
    let plus : (d == 43) ≡ false = ne_eqb _ _ (λ e. omega (arith, digit_from_value d h.1.0)) in
    ap (λ (b : Bool). drop (cond b 1 0) (d ∷ ds)) plus

pub numeral_is_plain : (ds : List ℕ) → IsNumeral 10 ds → IsPlain ds
numeral_is_plain [] h = refl
numeral_is_plain (d ∷ []) h = refl
numeral_is_plain (d ∷ next ∷ ds) h = ap not (no_minus d (next ∷ ds) h)

pub without_no_minus : (ds : List ℕ) → IsNumeral 10 ds → without_minus ds ≡ ds
without_no_minus [] h = refl
without_no_minus (d ∷ ds) h = ap (λ b. unwrap_or (cond b (Some ds) None) (d ∷ ds)) (no_minus d ds h)

pub numeral_in : (low high n : ℕ) (ds : List ℕ) → Writes n ds → low ≤ n → n ≤ high → n < 2 ^ 63
    → IsSignedIn (pos low) (pos high) ds
numeral_in low high n [] w l h fits = absurd (omega (arith, w.0.0))
numeral_in low high n (d ∷ ds) w l h fits =
    let minus : (d == 45) ≡ false = no_minus d ds w.0 in
    let plus : (d == 43) ≡ false = ne_eqb _ _ (λ e. omega (arith, digit_from_value d w.0.1.0)) in
    rw (minus, plus, w.1) (w.0, search rules, search rules, search rules)

-- a typed getter reads the number
pub numeral_reads : (E : Type 0) (G : List ℕ → Result ℕ E → Type 0) (k n : ℕ) (ds : List ℕ)
    (r : Option ℕ) → ReadsOne G ds r
    → ((u : List ℕ) (x : Result ℕ E) → G u x → ParsesUnsigned k 10 u x) → Writes n ds → n < 2 ^ k
    → r ≡ Some n
numeral_reads E G k n ds (Some v) read only w fits =
    let parsed = only ds (Ok v) read in
    ap Some (parsed.1 ∙ ap (digits_value 10) (no_plus ds w.0) ∙ w.1)
numeral_reads E G k n ds None read only w fits =
    let same = no_plus ds w.0 in
    absurd (only ds (Err read.0) read.1 (
      subst (IsNumeral 10) (sym same) w.0,
      subst (λ t. digits_value 10 t < 2 ^ k) (sym same)
          (subst (λ m. m < 2 ^ k) (sym w.1) fits),
    ))

pub numeral_accepted : (low high n : ℕ) (ds : List ℕ) → Writes n ds → low ≤ n → n ≤ high
    → n < 2 ^ 63 → accepts false (vp.Signed (pos low) (pos high)) ds ≡ true
numeral_accepted low high n ds w l h fits =
    Accepts-accepts false (vp.Signed (pos low) (pos high)) ds (numeral_in low high n ds w l h fits)
