-- How a text that prints numbers grows.
use Rattle.std.proofs.Common.{◌≡◌, Bool, false, if◌then◌else◌, ◌∙◌, ℕ, ◌+◌, arith, add-one, List, []}
use Rattle.std.proofs.Common.{◌∷◌, ◌++◌, true, ap, sym, refl, subst, append_assoc}
use Rattle.std.proofs.lemmas.List.{append-nil}
use Rattle.std.proofs.lemmas.List.Folds.{list_all-append}
use Rattle.race_summary.specs.Printed.{are_words, IsTextOf, Prints, Adds, below}
use Rattle.race_summary.specs.declared.values.Value.{Value}

-- words behind words are words
words_twice : (first more : List ℕ) → are_words first ≡ true → are_words more ≡ true
    → are_words (first ++ more) ≡ true
words_twice first more a b = grind (arith, a, b, list_all-append)

-- a text with words before it has the same numbers
words_before : (words text : List ℕ) (values : List Value) → are_words words ≡ true
    → Prints values text → Prints values (words ++ text)
unfolding Prints
words_before words text [] a p = words_twice words text a p
words_before words text (value ∷ values) a p = (
  words ++ p.0,
  p.1,
  p.2,
  words_twice words p.0 a p.3,
  p.4,
  p.5,
  ap (λ t. words ++ t) p.6 ∙ sym (append_assoc words p.0 (p.1 ++ p.2)),
)

-- a text behind another one has the numbers of both
pub prints_twice : (xs ys : List Value) (first more : List ℕ) → Prints xs first → Prints ys more
    → Prints (xs ++ ys) (first ++ more)
unfolding Prints
prints_twice [] ys first more p q = words_before first more ys p q
prints_twice (x ∷ xs) ys first more p q = (
  p.0,
  p.1,
  p.2 ++ more,
  p.3,
  p.4,
  prints_twice xs ys p.2 more p.5 q,
  ap (λ t. t ++ more) p.6 ∙ append_assoc p.0 (p.1 ++ p.2) more
      ∙ ap (λ t. p.0 ++ t) (append_assoc p.1 p.2 more),
)

-- a text to which words were added
pub adds_words : (old new words : List ℕ) → are_words words ≡ true → new ≡ old ++ words
    → Adds [] old new
unfolding Prints
adds_words old new words a e = record { more = words; prints = a; grown = e }

-- a text to which a number was added
pub adds_value : {given value : Value} {old new : List ℕ} (text : List ℕ) → given ≡ value
    → new ≡ old ++ text → IsTextOf value text → Adds (given ∷ []) old new
unfolding Prints
adds_value {given} {value} {old} {new} text same grown is = record {
  more = text;
  prints = (
    [],
    text,
    [],
    refl,
    subst (λ v. IsTextOf v text) (sym same) is,
    refl,
    sym (append-nil text),
  );
  grown = grown;
}

-- a text to which nothing was added
pub adds_nothing : (text : List ℕ) → Adds [] text text
unfolding Prints
adds_nothing text = record { more = []; prints = refl; grown = sym (append-nil text) }

-- a text to which numbers were added, and then more of them
pub adds_then : {xs ys : List Value} {a b c : List ℕ} → Adds xs a b → Adds ys b c
    → Adds (xs ++ ys) a c
adds_then {xs} {ys} {a} p q = record {
  more = p.more ++ q.more;
  prints = prints_twice xs ys p.more q.more p.prints q.prints;
  grown = q.grown ∙ ap (λ t. t ++ q.more) p.grown ∙ append_assoc a p.more q.more;
}

-- a text to which a number was added that is this one
pub adds_same : {given value : Value} {a b : List ℕ} → given ≡ value → Adds (given ∷ []) a b
    → Adds (value ∷ []) a b
adds_same {given} {value} {a} {b} same p = subst (λ v. Adds (v ∷ []) a b) same p

-- words behind numbers
pub adds_end : {xs : List Value} {a b c : List ℕ} → Adds xs a b → Adds [] b c → Adds xs a c
adds_end {xs} {a} {b} {c} p q = subst (λ zs. Adds zs a c) (append-nil xs) (adds_then p q)

-- the numbers of one k more
pub below-more : (values : ℕ → List Value) (k : ℕ)
    → below values (k + 1) ≡ below values k ++ values k
unfolding below
below-more values k = ap (below values) (add-one k)

-- no number is of a k below 0
pub adds_below_none : (values : ℕ → List Value) (text : List ℕ) → Adds (below values 0) text text
unfolding below
adds_below_none values text = adds_nothing text

-- a text to which the numbers of one k more were added
pub adds_below : (values : ℕ → List Value) (k : ℕ) {a b c : List ℕ} → Adds (below values k) a b
    → Adds (values k) b c → Adds (below values (k + 1)) a c
adds_below values k {a} {b} {c} p q =
    subst (λ vs. Adds vs a c) (sym (below-more values k)) (adds_then p q)

-- a text to which numbers were added that a test asks for
pub adds_if : {values : List Value} {test : Bool} {a b : List ℕ} → test ≡ true → Adds values a b
    → Adds (if test then values else []) a b
adds_if {values} {test} {a} {b} same p =
    subst (λ t. Adds (if t then values else []) a b) (sym same) p

-- a text to which nothing was added, as a test asks for
pub adds_unless : (values : List Value) {test : Bool} (a : List ℕ) → test ≡ false
    → Adds (if test then values else []) a a
adds_unless values {test} a same =
    subst (λ t. Adds (if t then values else []) a a) (sym same) (adds_nothing a)
