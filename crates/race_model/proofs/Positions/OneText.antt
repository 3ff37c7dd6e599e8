-- A position has one text: each count has one.
use Rattle.std.proofs.Common.{◌≡◌, ℕ, ◌+◌, ◌-◌, ◌*◌, ◌≤◌, ◌==◌, Bool, true, false, ◌&&◌, cond, leb}
use Rattle.std.proofs.Common.{Some, None, List, [], ◌∷◌, map, refl, ap, ap₂, sym, ◌∙◌, arith}
use Rattle.std.proofs.Common.{leb-true}
use Rattle.std.specs.List.{slice_split, join_with_byte}
use Rattle.std.proofs.lemmas.List.Splits.{join_with_byte-slice_split}
use Rattle.race_model.specs.Prelude.{Board, is_digit, is_leading_digit, count_value, IsPositionText}
use Rattle.race_model.proofs.Numbers.Tests.{both_tests, tested}

-- a value that is given under a test
given : (b : Bool) (a n : ℕ) → cond b (Some a) None ≡ Some n → a ≡ n
given true a n e = cc
given false a n e = absurd (cc)

-- the codes of digits
is_code : (c : ℕ) → is_digit c ≡ true → (48 ≤ c) × (c ≤ 57)
is_code c e = let t = both_tests (leb 48 c) (leb c 57) e in (leb-true 48 c t.0, leb-true c 57 t.1)

-- the codes of digits from 1 on
is_leading_code : (c : ℕ) → is_leading_digit c ≡ true → (49 ≤ c) × (c ≤ 57)
is_leading_code c e =
    let t = both_tests (leb 49 c) (leb c 57) e in (leb-true 49 c t.0, leb-true c 57 t.1)

-- the text of a count: one digit, or two or three of which the first is not 0
data IsCountText (n : ℕ) : List ℕ → Type 0 where
  one_digit : (a : ℕ) → 48 ≤ a → a ≤ 57 → n + 48 ≡ a → IsCountText n (a ∷ [])
  two_digits : (a b : ℕ) → 49 ≤ a → a ≤ 57 → 48 ≤ b → b ≤ 57 → n + 528 ≡ 10 * a + b →
      IsCountText n (a ∷ b ∷ [])
  three_digits : (a b c : ℕ) → 49 ≤ a → a ≤ 57 → 48 ≤ b → b ≤ 57 → 48 ≤ c → c ≤ 57 →
      n + 5328 ≡ 100 * a + 10 * b + c → IsCountText n (a ∷ b ∷ c ∷ [])

-- a text that states a count is one of these
read_count : (w : List ℕ) (n : ℕ) → count_value w ≡ Some n → IsCountText n w
read_count [] n e = absurd (cc)
read_count (a ∷ []) n e =
    let t = is_code a (tested (is_digit a) (Some (a - 48)) n e) in
    let value = given (is_digit a) (a - 48) n e in
    one_digit a t.0 t.1 (omega (arith, value, t.0))
read_count (a ∷ b ∷ []) n e =
    let t =
    both_tests (is_leading_digit a) (is_digit b)
    (tested (is_leading_digit a && is_digit b) (Some (10 * (a - 48) + (b - 48))) n e) in
    let p = is_leading_code a t.0 in
    let q = is_code b t.1 in
    let value = given (is_leading_digit a && is_digit b) (10 * (a - 48) + (b - 48)) n e in
    two_digits a b p.0 p.1 q.0 q.1 (omega (arith, value, p.0, q.0))
read_count (a ∷ b ∷ c ∷ []) n e =
    let t =
    both_tests (is_leading_digit a) (is_digit b && is_digit c)
    (tested (is_leading_digit a && (is_digit b && is_digit c))
    (Some (100 * (a - 48) + 10 * (b - 48) + (c - 48))) n e) in
    let u = both_tests (is_digit b) (is_digit c) t.1 in
    let p = is_leading_code a t.0 in
    let q = is_code b u.0 in
    let r = is_code c u.1 in
    let value =
    given (is_leading_digit a && (is_digit b && is_digit c))
    (100 * (a - 48) + 10 * (b - 48) + (c - 48)) n e in
    three_digits a b c p.0 p.1 q.0 q.1 r.0 r.1 (omega (arith, value, p.0, q.0, r.0))
read_count (a ∷ b ∷ c ∷ d ∷ more) n e = absurd (cc)

-- two texts of one count are one
one_count : (n : ℕ) (w u : List ℕ) → IsCountText n w → IsCountText n u → w ≡ u
one_count n w u (one_digit a l h e) (one_digit a₁ l₁ h₁ e₁) =
    let same : a ≡ a₁ = omega arith in ap (λ c. c ∷ []) same
one_count n w u (one_digit a l h e) (two_digits a₁ b₁ l₁ h₁ m₁ i₁ e₁) = absurd (omega arith)
one_count n w u (one_digit a l h e) (three_digits a₁ b₁ c₁ l₁ h₁ m₁ i₁ o₁ j₁ e₁) =
    absurd (omega arith)
one_count n w u (two_digits a b l h m i e) (one_digit a₁ l₁ h₁ e₁) = absurd (omega arith)
one_count n w u (two_digits a b l h m i e) (two_digits a₁ b₁ l₁ h₁ m₁ i₁ e₁) =
    let p : a ≡ a₁ = omega arith in let q : b ≡ b₁ = omega arith in ap₂ (λ c d. c ∷ d ∷ []) p q
one_count n w u (two_digits a b l h m i e) (three_digits a₁ b₁ c₁ l₁ h₁ m₁ i₁ o₁ j₁ e₁) =
    absurd (omega arith)
one_count n w u (three_digits a b c l h m i o j e) (one_digit a₁ l₁ h₁ e₁) = absurd (omega arith)
one_count n w u (three_digits a b c l h m i o j e) (two_digits a₁ b₁ l₁ h₁ m₁ i₁ e₁) =
    absurd (omega arith)
one_count n w u (three_digits a b c l h m i o j e) (three_digits a₁ b₁ c₁ l₁ h₁ m₁ i₁ o₁ j₁ e₁) =
    let p : a ≡ a₁ = omega arith in
    let q : b ≡ b₁ = omega arith in
    let r : c ≡ c₁ = omega arith in
    λ x. p x ∷ q x ∷ r x ∷ []

-- two lists of texts of the same counts are one
same_texts : (ws us : List (List ℕ)) (ns : List ℕ) → map count_value ws ≡ map (λ n. Some n) ns →
    map count_value us ≡ map (λ n. Some n) ns → ws ≡ us
same_texts [] [] ns e f = refl
same_texts [] (u ∷ us) [] e f = absurd (cc)
same_texts [] (u ∷ us) (n ∷ ns) e f = absurd (cc)
same_texts (w ∷ ws) [] [] e f = absurd (cc)
same_texts (w ∷ ws) [] (n ∷ ns) e f = absurd (cc)
same_texts (w ∷ ws) (u ∷ us) [] e f = absurd (cc)
same_texts (w ∷ ws) (u ∷ us) (n ∷ ns) e f =
    ap₂ (λ c cs. c ∷ cs) (one_count n w u (read_count w n (cc)) (read_count u n (cc)))
    (same_texts ws us ns (cc) (cc))

-- a position has one text
pub one_text : (x : Board) (p q : List ℕ) → IsPositionText p x → IsPositionText q x → p ≡ q
one_text x p q a b =
    sym (join_with_byte-slice_split 44 p)
    ∙ ap (join_with_byte 44)
    (same_texts (slice_split (λ c. c == 44) p) (slice_split (λ c. c == 44) q) x a.each b.each)
    ∙ join_with_byte-slice_split 44 q
