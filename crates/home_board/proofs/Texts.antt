-- What a text's parts say of the counts that it states.
use Rattle.std.proofs.Common.{◌≡◌, ℕ, zero, suc, ◌+◌, ◌<◌, ◌==◌, List, [], ◌∷◌, ◌++◌, Some, None}
use Rattle.std.proofs.Common.{map, take, length, get_or, refl, sym, ap, ◌∙◌, arith, add-one}
use Rattle.std.specs.List.{slice_split}
use Rattle.race_model.specs.Prelude.{count_value, IsPositionText}

-- the parts of a text, between its commas
abbrev pub parts : List ℕ → List (List ℕ)
parts text = slice_split (λ c. c == 44) text

-- a list whose values are those of counts is as long
pub length-values : (pieces : List (List ℕ)) (counts : List ℕ) →
    map count_value pieces ≡ map (λ c. Some c) counts → length pieces ≡ length counts
length-values [] [] e = refl
length-values [] (c ∷ cs) e = cc
length-values (p ∷ ps) [] e = cc
length-values (p ∷ ps) (c ∷ cs) e =
    let rest : map count_value ps ≡ map (λ c. Some c) cs = cc in
    ap suc (length-values ps cs rest)

-- each part of such a list states a count
pub no_refused : (pieces : List (List ℕ)) (counts : List ℕ) (n : ℕ) (d : List ℕ) →
    map count_value pieces ≡ map (λ c. Some c) counts → n < length pieces →
    count_value (get_or pieces n d) ≡ None → ⊥
no_refused [] counts n d e h none = absurd (omega arith)
no_refused (p ∷ ps) [] n d e h none = cc
no_refused (p ∷ ps) (c ∷ cs) zero d e h none = cc
no_refused (p ∷ ps) (c ∷ cs) (suc n) d e h none =
    let rest : map count_value ps ≡ map (λ c. Some c) cs = cc in
    no_refused ps cs n d rest (omega arith) none

-- one more part, and the count that it states
pub states_more : (pieces : List (List ℕ)) (counts : List ℕ) (n c : ℕ) (d : List ℕ) →
    map count_value (take n pieces) ≡ map (λ c. Some c) counts → n < length pieces →
    count_value (get_or pieces n d) ≡ Some c →
    map count_value (take (n + 1) pieces) ≡ map (λ c. Some c) (counts ++ c ∷ [])
states_more pieces counts n c d e h is =
    rw (add-one) (more pieces counts n e h is)
  where
    more : (pieces : List (List ℕ)) (counts : List ℕ) (n : ℕ) →
        map count_value (take n pieces) ≡ map (λ c. Some c) counts → n < length pieces →
        count_value (get_or pieces n d) ≡ Some c →
        map count_value (take (suc n) pieces) ≡ map (λ c. Some c) (counts ++ c ∷ [])
    more [] cs n e h is = absurd (omega arith)
    more (p ∷ ps) [] zero e h is = cc
    more (p ∷ ps) (x ∷ xs) zero e h is = cc
    more (p ∷ ps) [] (suc n) e h is = cc
    more (p ∷ ps) (x ∷ xs) (suc n) e h is =
        let first : count_value p ≡ Some x = cc in
        let rest : map count_value (take n ps) ≡ map (λ c. Some c) xs = cc in
        let r = more ps xs n rest (omega arith) is in
        cc

-- counts that are read the same are the same
values_apart : (xs ys : List ℕ) → map (λ c. Some c) xs ≡ map (λ c. Some c) ys → xs ≡ ys
values_apart [] [] e = refl
values_apart [] (y ∷ ys) e = cc
values_apart (x ∷ xs) [] e = cc
values_apart (x ∷ xs) (y ∷ ys) e =
    let rest : map (λ c. Some c) xs ≡ map (λ c. Some c) ys = cc in
    let r = values_apart xs ys rest in
    cc

-- a text states no two lists of counts
pub text_apart : (text xs ys : List ℕ) → IsPositionText text xs → IsPositionText text ys → xs ≡ ys
text_apart text xs ys a b = values_apart xs ys (sym a.each ∙ b.each)
