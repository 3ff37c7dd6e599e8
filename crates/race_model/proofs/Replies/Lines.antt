-- Lines of input: the words of a line tell what it asks, and no line that asks something is long.
use Rattle.std.proofs.Common.{◌≡◌, ⊎_elim, ℕ, ◌+◌, ◌*◌, ◌≤◌, Bool, true, false, not, ◌&&◌, eqb, leb}
use Rattle.std.proofs.Common.{Some, List, [], ◌∷◌, ◌++◌, length, get_or, map, codes, All, refl, ap}
use Rattle.std.proofs.Common.{ap₂, sym, subst, ◌∙◌, arith, append_assoc, length-append, leb-true}
use Rattle.std.proofs.Common.{ne_eqb, cond, ◌⊎◌, inl, ◌<◌, inr}
use Rattle.std.specs.List.{slice_split, join_with_byte}
use Rattle.std.proofs.lemmas.List.Elements.{All-append, All-cons, All-nil}
use Rattle.std.proofs.lemmas.List.Splits.{join_with_byte-slice_split, slice_split_at, slice_split_none}
use Rattle.race_model.specs.Prelude.{Board, Die, one, number, Throw, reversed, IsRoll, is_digit, is_leading_digit}
use Rattle.race_model.specs.Prelude.{count_value, IsPositionText, Query, subject, mean_query, dist_query, play_query}
use Rattle.race_model.specs.Prelude.{loss_query, moves_query, rank_query, dice_text, IsRollText, IsQuery, words}
use Rattle.race_model.specs.Prelude.{HasWords}
use Rattle.race_model.proofs.Dice.Faces.{same_number}
use Rattle.race_model.proofs.Numbers.Tests.{both_tests, tested}

-- the byte is no space
abbrev IsNoSpace : ℕ → Type 0
IsNoSpace c = eqb c 32 ≡ false

-- a digit is no space
digit_no_space : (c : ℕ) → is_digit c ≡ true → IsNoSpace c
digit_no_space c e =
    let low = leb-true 48 c (both_tests (leb 48 c) (leb c 57) e).0 in
    ne_eqb c 32 (omega (arith, low))

-- a digit from 1 on is no space
leading_no_space : (c : ℕ) → is_leading_digit c ≡ true → IsNoSpace c
leading_no_space c e =
    let low = leb-true 49 c (both_tests (leb 49 c) (leb c 57) e).0 in
    ne_eqb c 32 (omega (arith, low))

-- the text of a count has at most three bytes, and no space
count_text : (w : List ℕ) (n : ℕ) → count_value w ≡ Some n → (length w ≤ 3) × All IsNoSpace w
count_text [] n e = absurd (cc)
count_text (a ∷ []) n e = (
  omega arith,
  All-cons IsNoSpace a [] (digit_no_space a (tested (is_digit a) _ n e)) (All-nil IsNoSpace),
)
count_text (a ∷ b ∷ []) n e =
    let t =
    both_tests (is_leading_digit a) (is_digit b)
    (tested (is_leading_digit a && is_digit b) _ n e) in (
      omega arith,
      All-cons IsNoSpace a (b ∷ []) (leading_no_space a t.0)
          (All-cons IsNoSpace b [] (digit_no_space b t.1) (All-nil IsNoSpace)),
    )
count_text (a ∷ b ∷ c ∷ []) n e =
    let t =
    both_tests (is_leading_digit a) (is_digit b && is_digit c)
    (tested (is_leading_digit a && (is_digit b && is_digit c)) _ n e) in
    let u = both_tests (is_digit b) (is_digit c) t.1 in (
      omega arith,
      All-cons IsNoSpace a (b ∷ c ∷ []) (leading_no_space a t.0)
          (All-cons IsNoSpace b (c ∷ []) (digit_no_space b u.0)
          (All-cons IsNoSpace c [] (digit_no_space c u.1) (All-nil IsNoSpace))),
    )
count_text (a ∷ b ∷ c ∷ d ∷ more) n e = absurd (cc)

-- the text of counts with commas between has no space, and few bytes
counts_text : (w : List ℕ) (ws : List (List ℕ)) (ns : List ℕ) →
    map count_value (w ∷ ws) ≡ map (λ n. Some n) ns →
    (length (join_with_byte 44 (w ∷ ws)) + 1 ≤ 4 * length ns)
    × All IsNoSpace (join_with_byte 44 (w ∷ ws))
counts_text w ws [] e = absurd (cc)
counts_text w [] (n ∷ ns) e = let here = count_text w n (cc) in (omega (arith, here.0), here.1)
counts_text w (u ∷ ws) (n ∷ ns) e =
    let here = count_text w n (cc) in
    let rest = counts_text u ws ns (cc) in (
      omega (arith, here.0, rest.0, length-append w (44 ∷ join_with_byte 44 (u ∷ ws))),
      All-append IsNoSpace w (44 ∷ join_with_byte 44 (u ∷ ws)) here.1
          (All-cons IsNoSpace 44 (join_with_byte 44 (u ∷ ws)) refl rest.1),
    )

-- the text of a position has at most 23 bytes, and no space
pub position_text : (p : List ℕ) (x : Board) → IsPositionText p x →
    (length p ≤ 23) × All IsNoSpace p
position_text p x is = by (slice_split (λ c. eqb c 44) p) (join_with_byte-slice_split 44 p) is.each
  where
    none : (x : List ℕ) → [] ≡ map (λ n. Some n) x → length x ≡ 6 → ⊥
    none [] f six = omega arith
    none (c ∷ cs) f six = cc

    by : (ws : List (List ℕ)) → join_with_byte 44 ws ≡ p →
        map count_value ws ≡ map (λ n. Some n) x → (length p ≤ 23) × All IsNoSpace p
    by [] e f = absurd (none x f is.six)
    by (w ∷ ws) e f =
        let facts = counts_text w ws x f in
        subst (λ t. (length t ≤ 23) × All IsNoSpace t) e (omega (arith, facts.0, is.six), facts.1)

-- the text of a roll is two bytes, and no space
roll_text : (r : List ℕ) (v : Throw) → IsRollText r v → (length r ≡ 2) × All IsNoSpace r
roll_text r v is = ⊎_elim (λ e. of v e) (λ e. of (reversed v) e) is.digits
  where
    no_space : (d : Die) → IsNoSpace (48 + number d)
    no_space d = ne_eqb (48 + number d) 32 (omega arith)

    of : (u : Throw) → r ≡ dice_text u → (length r ≡ 2) × All IsNoSpace r
    of u e =
        subst (λ t. (length t ≡ 2) × All IsNoSpace t) (sym e) (
          refl,
          All-cons IsNoSpace (48 + number u.first) ((48 + number u.second) ∷ [])
              (no_space u.first)
              (All-cons IsNoSpace (48 + number u.second) [] (no_space u.second)
              (All-nil IsNoSpace)),
        )

-- a line of one word, of two, of three and of four
words-one : (a : List ℕ) → All IsNoSpace a → words a ≡ a ∷ []
words-one a h = slice_split_none (λ c. eqb c 32) a h

-- the words of a line of a word and more
words-more : (a rest : List ℕ) → All IsNoSpace a → words (a ++ 32 ∷ rest) ≡ a ∷ words rest
words-more a rest h = slice_split_at (λ c. eqb c 32) a 32 rest h refl

-- the words of a line of two
words-two : (a p : List ℕ) → All IsNoSpace a → All IsNoSpace p → words (a ++ 32 ∷ p) ≡ a ∷ p ∷ []
words-two a p h k = words-more a p h ∙ ap (λ ws. a ∷ ws) (words-one p k)

-- the words of a line of three
words-three : (a p r : List ℕ) → All IsNoSpace a → All IsNoSpace p → All IsNoSpace r →
    words (a ++ 32 ∷ (p ++ 32 ∷ r)) ≡ a ∷ p ∷ r ∷ []
words-three a p r h k l = words-more a (p ++ 32 ∷ r) h ∙ ap (λ ws. a ∷ ws) (words-two p r k l)

-- the words of a line of four
words-four : (a p r q : List ℕ) → All IsNoSpace a → All IsNoSpace p → All IsNoSpace r →
    All IsNoSpace q → words (a ++ 32 ∷ (p ++ 32 ∷ (r ++ 32 ∷ q))) ≡ a ∷ p ∷ r ∷ q ∷ []
words-four a p r q h k l m =
    words-more a (p ++ 32 ∷ (r ++ 32 ∷ q)) h ∙ ap (λ ws. a ∷ ws) (words-three p r q k l m)

-- the words of a list that is joined again
joined_words : (line : List ℕ) (ws : List (List ℕ)) → words line ≡ ws → line ≡ join_with_byte 32 ws
joined_words line ws e = sym (join_with_byte-slice_split 32 line) ∙ ap (join_with_byte 32) e

-- no byte of a list is a space, by computation
abbrev has_no_space : List ℕ → Bool
has_no_space [] = true
has_no_space (c ∷ cs) = not (eqb c 32) && has_no_space cs

-- a list in which no space is found by computation has none
no_space_in : (a : List ℕ) → has_no_space a ≡ true → All IsNoSpace a
no_space_in [] e = All-nil IsNoSpace
no_space_in (c ∷ cs) e =
    let t = both_tests (not (eqb c 32)) (has_no_space cs) e in
    All-cons IsNoSpace c cs (refused (eqb c 32) t.0) (no_space_in cs t.1)
  where
    refused : (b : Bool) → not b ≡ true → b ≡ false
    refused true e = absurd (cc)
    refused false e = refl

-- three and four parts with a space between, bracketed the other way
three_parts : (a p r : List ℕ) → a ++ p ++ (32 ∷ []) ++ r ≡ a ++ (p ++ 32 ∷ r)
three_parts a p r = append_assoc (a ++ p) (32 ∷ []) r ∙ append_assoc a p (32 ∷ r)

-- four parts with a space between, bracketed the other way
four_parts : (a p r q : List ℕ) →
    a ++ p ++ (32 ∷ []) ++ r ++ (32 ∷ []) ++ q ≡ a ++ (p ++ 32 ∷ (r ++ 32 ∷ q))
four_parts a p r q =
    append_assoc (a ++ p ++ (32 ∷ []) ++ r) (32 ∷ []) q
    ∙ append_assoc (a ++ p ++ (32 ∷ [])) r (32 ∷ q) ∙ three_parts a p (r ++ 32 ∷ q)

-- the words of a query
pub words_of_query : (line : List ℕ) (q : Query) → IsQuery line q → HasWords line q
words_of_query line (mean_query x) (p, is, e) = (
  p,
  is,
  ap words e
      ∙ words-two (codes "mean") p (no_space_in (codes "mean") refl) (position_text p x is).1,
)
words_of_query line (dist_query x) (p, is, e) = (
  p,
  is,
  ap words e
      ∙ words-two (codes "dist") p (no_space_in (codes "dist") refl) (position_text p x is).1,
)
words_of_query line (play_query x v) (p, r, is, rolled, e) = (
  p,
  r,
  is,
  rolled,
  ap words (e ∙ three_parts (codes "play ") p r)
      ∙ words-three (codes "play") p r (no_space_in (codes "play") refl) (position_text p x is).1
      (roll_text r v rolled).1,
)
words_of_query line (loss_query x v y) (p, r, q, is, rolled, to, e) = (
  p,
  r,
  q,
  is,
  rolled,
  to,
  ap words (e ∙ four_parts (codes "loss ") p r q)
      ∙ words-four (codes "loss") p r q (no_space_in (codes "loss") refl)
      (position_text p x is).1 (roll_text r v rolled).1 (position_text q y to).1,
)
words_of_query line (moves_query x v) (p, r, is, rolled, e) = (
  p,
  r,
  is,
  rolled,
  ap words (e ∙ three_parts (codes "moves ") p r)
      ∙ words-three (codes "moves") p r (no_space_in (codes "moves") refl)
      (position_text p x is).1 (roll_text r v rolled).1,
)
words_of_query line (rank_query x) (p, is, e) = (
  p,
  is,
  ap words e
      ∙ words-two (codes "rank") p (no_space_in (codes "rank") refl) (position_text p x is).1,
)

-- what the words ask, the line asks
pub query_of_words : (line : List ℕ) (q : Query) → HasWords line q → IsQuery line q
query_of_words line (mean_query x) (p, is, e) = (p, is, joined_words line _ e)
query_of_words line (dist_query x) (p, is, e) = (p, is, joined_words line _ e)
query_of_words line (play_query x v) (p, r, is, rolled, e) =
    (p, r, is, rolled, joined_words line _ e ∙ sym (three_parts (codes "play ") p r))
query_of_words line (loss_query x v y) (p, r, q, is, rolled, to, e) =
    (p, r, q, is, rolled, to, joined_words line _ e ∙ sym (four_parts (codes "loss ") p r q))
query_of_words line (moves_query x v) (p, r, is, rolled, e) =
    (p, r, is, rolled, joined_words line _ e ∙ sym (three_parts (codes "moves ") p r))
query_of_words line (rank_query x) (p, is, e) = (p, is, joined_words line _ e)

-- a line that asks something has at most 55 bytes
pub short_line : (line : List ℕ) (q : Query) → IsQuery line q → length line ≤ 55
short_line line (mean_query x) (p, is, e) =
    let long = (position_text p x is).0 in subst (λ l. length l ≤ 55) (sym e) (omega (arith, long))
short_line line (dist_query x) (p, is, e) =
    let long = (position_text p x is).0 in subst (λ l. length l ≤ 55) (sym e) (omega (arith, long))
short_line line (play_query x v) (p, r, is, rolled, e) =
    let long = (position_text p x is).0 in
    let two = (roll_text r v rolled).0 in
    subst (λ l. length l ≤ 55) (sym (e ∙ three_parts (codes "play ") p r))
    (omega (arith, long, two, length-append p (32 ∷ r)))
short_line line (loss_query x v y) (p, r, q, is, rolled, to, e) =
    let long = (position_text p x is).0 in
    let two = (roll_text r v rolled).0 in
    let last = (position_text q y to).0 in
    subst (λ l. length l ≤ 55) (sym (e ∙ four_parts (codes "loss ") p r q))
    (omega (
      arith,
      long,
      two,
      last,
      length-append p (32 ∷ (r ++ 32 ∷ q)),
      length-append r (32 ∷ q),
    ))
short_line line (moves_query x v) (p, r, is, rolled, e) =
    let long = (position_text p x is).0 in
    let two = (roll_text r v rolled).0 in
    subst (λ l. length l ≤ 55) (sym (e ∙ three_parts (codes "moves ") p r))
    (omega (arith, long, two, length-append p (32 ∷ r)))
short_line line (rank_query x) (p, is, e) =
    let long = (position_text p x is).0 in subst (λ l. length l ≤ 55) (sym e) (omega (arith, long))

-- lists of equal values
same_values : (xs ys : List ℕ) → map (λ n. Some n) xs ≡ map (λ n. Some n) ys → xs ≡ ys
same_values [] [] e = refl
same_values [] (y ∷ ys) e = absurd (cc)
same_values (x ∷ xs) [] e = absurd (cc)
same_values (x ∷ xs) (y ∷ ys) e = ap₂ (λ c cs. c ∷ cs) (cc) (same_values xs ys (cc))

-- a text is that of one position
pub one_position : (p : List ℕ) (x y : Board) → IsPositionText p x → IsPositionText p y → x ≡ y
one_position p x y a b = same_values x y (sym a.each ∙ b.each)

-- a text is that of one roll
one_roll : (r : List ℕ) (v w : Throw) → IsRollText r v → IsRollText r w → v ≡ w
one_roll r v w a b = ⊎_elim
    (λ e.
    ⊎_elim (λ f. straight v w (sym e ∙ f)) (λ f. crossed v w a.roll b.roll (sym e ∙ f))
    b.digits)
    (λ e.
    ⊎_elim (λ f. sym (crossed w v b.roll a.roll (sym f ∙ e)))
    (λ f. straight_reversed v w (sym e ∙ f)) b.digits)
    a.digits
  where
    same : (v w : Throw) → number v.first ≡ number w.first → number v.second ≡ number w.second →
        v ≡ w
    same v w e f =
        let p = same_number v.first w.first e in
        let q = same_number v.second w.second f in λ i. record { first = p i; second = q i }

    digit : (a b : ℕ) → 48 + a ≡ 48 + b → a ≡ b
    digit a b e = omega arith

    heads : (a b c d : ℕ) → (48 + a) ∷ (48 + b) ∷ [] ≡ (48 + c) ∷ (48 + d) ∷ [] → (a ≡ c) × (b ≡ d)
    heads a b c d e = (digit a c (cc), digit b d (cc))

    straight : (v w : Throw) → dice_text v ≡ dice_text w → v ≡ w
    straight v w e =
        let t = heads (number v.first) (number v.second) (number w.first) (number w.second) e in
        same v w t.0 t.1

    straight_reversed : (v w : Throw) → dice_text (reversed v) ≡ dice_text (reversed w) → v ≡ w
    straight_reversed v w e =
        let t = heads (number v.second) (number v.first) (number w.second) (number w.first) e in
        same v w t.1 t.0

    crossed : (v w : Throw) → IsRoll v → IsRoll w → dice_text v ≡ dice_text (reversed w) → v ≡ w
    crossed v w high low e =
        let t = heads (number v.first) (number v.second) (number w.second) (number w.first) e in
        same v w (omega (arith, t.0, t.1)) (omega (arith, t.0, t.1))

-- the first two letters of the first word, which tell the six kinds of query apart
unfoldable first_letters : List (List ℕ) → ℕ
first_letters [] = 0
first_letters (w ∷ ws) = 256 * get_or w 0 0 + get_or w 1 0

-- the query with this first word and these parts, of which it takes those that it has
unfoldable form : ℕ → Board → Throw → Board → Query
form n x v y =
    cond (eqb n (first_letters (codes "mean" ∷ []))) (mean_query x)
    (cond (eqb n (first_letters (codes "dist" ∷ []))) (dist_query x)
    (cond (eqb n (first_letters (codes "play" ∷ []))) (play_query x v)
    (cond (eqb n (first_letters (codes "loss" ∷ []))) (loss_query x v y)
    (cond (eqb n (first_letters (codes "moves" ∷ []))) (moves_query x v)
    (rank_query x)))))

-- the roll of a query, or double aces where it has none
abbrev roll_in : Query → Throw
roll_in (mean_query x) = record { first = one; second = one }
roll_in (dist_query x) = record { first = one; second = one }
roll_in (play_query x v) = v
roll_in (loss_query x v y) = v
roll_in (moves_query x v) = v
roll_in (rank_query x) = record { first = one; second = one }

-- the position whose loss a query asks, or no counts where it asks none
abbrev target_in : Query → Board
target_in (mean_query x) = []
target_in (dist_query x) = []
target_in (play_query x v) = []
target_in (loss_query x v y) = y
target_in (moves_query x v) = []
target_in (rank_query x) = []

-- what the words say of a query: its first word makes it of its parts, and each part has one text
record IsMadeOf (ws : List (List ℕ)) (q : Query) : Type 0 where
  made : q ≡ form (first_letters ws) (subject q) (roll_in q) (target_in q)
  subject_is : IsPositionText (get_or ws 1 []) (subject q)
  roll_is : ((length ws ≡ 2) × (roll_in q ≡ record { first = one; second = one }))
      ⊎ ((2 < length ws) × IsRollText (get_or ws 2 []) (roll_in q))
  target_is : ((length ws < 4) × (target_in q ≡ []))
      ⊎ ((3 < length ws) × IsPositionText (get_or ws 3 []) (target_in q))

-- the words of a query make it of its parts
made_of : (line : List ℕ) (q : Query) → HasWords line q → IsMadeOf (words line) q
unfolding form first_letters
made_of line (mean_query x) (p, is, e) = subst (λ ws. IsMadeOf ws (mean_query x)) (sym e) (record {
  made = refl;
  subject_is = is;
  roll_is = inl (refl, refl);
  target_is = inl (omega arith, refl);
})
made_of line (dist_query x) (p, is, e) = subst (λ ws. IsMadeOf ws (dist_query x)) (sym e) (record {
  made = refl;
  subject_is = is;
  roll_is = inl (refl, refl);
  target_is = inl (omega arith, refl);
})
made_of line (play_query x v) (p, r, is, rolled, e) =
    subst (λ ws. IsMadeOf ws (play_query x v)) (sym e) (record {
      made = refl;
      subject_is = is;
      roll_is = inr (omega arith, rolled);
      target_is = inl (omega arith, refl);
    })
made_of line (loss_query x v y) (p, r, q, is, rolled, to, e) =
    subst (λ ws. IsMadeOf ws (loss_query x v y)) (sym e) (record {
      made = refl;
      subject_is = is;
      roll_is = inr (omega arith, rolled);
      target_is = inr (omega arith, to);
    })
made_of line (moves_query x v) (p, r, is, rolled, e) =
    subst (λ ws. IsMadeOf ws (moves_query x v)) (sym e) (record {
      made = refl;
      subject_is = is;
      roll_is = inr (omega arith, rolled);
      target_is = inl (omega arith, refl);
    })
made_of line (rank_query x) (p, is, e) = subst (λ ws. IsMadeOf ws (rank_query x)) (sym e) (record {
  made = refl;
  subject_is = is;
  roll_is = inl (refl, refl);
  target_is = inl (omega arith, refl);
})

-- words make one query
one_made : (ws : List (List ℕ)) (q r : Query) → IsMadeOf ws q → IsMadeOf ws r → q ≡ r
one_made ws q r a b =
    a.made
    ∙ ((λ i. form (first_letters ws) (same_subject i) (same_roll i) (same_target i)) ∙ sym b.made)
  where
    same_subject : subject q ≡ subject r
    same_subject = one_position (get_or ws 1 []) (subject q) (subject r) a.subject_is b.subject_is

    same_roll : roll_in q ≡ roll_in r
    same_roll = elim a.roll_is [
      | inl none ↦ elim b.roll_is [
        | inl none₁ ↦ none.1 ∙ sym none₁.1
        | inr some₁ ↦ absurd (omega (arith, none.0, some₁.0))
      ]
      | inr some ↦ elim b.roll_is [
        | inl none₁ ↦ absurd (omega (arith, some.0, none₁.0))
        | inr some₁ ↦ one_roll (get_or ws 2 []) (roll_in q) (roll_in r) some.1 some₁.1
      ]
    ]

    same_target : target_in q ≡ target_in r
    same_target = elim a.target_is [
      | inl none ↦ elim b.target_is [
        | inl none₁ ↦ none.1 ∙ sym none₁.1
        | inr some₁ ↦ absurd (omega (arith, none.0, some₁.0))
      ]
      | inr some ↦ elim b.target_is [
        | inl none₁ ↦ absurd (omega (arith, some.0, none₁.0))
        | inr some₁ ↦ one_position (get_or ws 3 []) (target_in q) (target_in r) some.1 some₁.1
      ]
    ]

-- a line asks one thing
pub one_query : (line : List ℕ) (q r : Query) → IsQuery line q → IsQuery line r → q ≡ r
one_query line q r a b =
    one_made (words line) q r (made_of line q (words_of_query line q a))
    (made_of line r (words_of_query line r b))
