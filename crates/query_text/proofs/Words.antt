-- A text that is cut at its first space, and what the words of a line tell of the query that it
-- asks.
use Rattle.std.proofs.Common.{◌≡◌, ◌≢◌, ◌↔◌, ⊎_elim, inl, inr, ℕ, ◌+◌, ◌==◌, ltb, eqb, Bool, true}
use Rattle.std.proofs.Common.{false, cond, Option, Some, None, Result, Ok, Err, List, [], ◌∷◌, ◌++◌}
use Rattle.std.proofs.Common.{length, get_or, take, drop, codes, MatchOption, IsSome, IfSome, refl}
use Rattle.std.proofs.Common.{ap, sym, subst, ◌∙◌, arith, append_assoc, eqb-true}
use Rattle.std.proofs.lemmas.Bool.{ltb-true, ltb-false}
use Rattle.std.specs.List.{position, position_or_len, before_first, after_first, join_with_byte}
use Rattle.std.proofs.lemmas.List.Splits.{join_with_byte-slice_split, slice_split_first, slice_split_none}
use Rattle.std.proofs.lemmas.List.Sums.{split_at_first, passes_at_first, fails_before_first}
use Rattle.race_model.specs.Prelude.{Board, IsPositionText, Die, number, Throw, Query as Asked, mean_query, dist_query}
use Rattle.race_model.specs.Prelude.{play_query, loss_query, moves_query, rank_query, IsQuery, HasWords, HasTooMany}
use Rattle.race_model.specs.Prelude.{IsRollText, words}
use Rattle.legal_plays.specs.Faces.{roll_of}
use Rattle.legal_plays.specs.Texts.{roll_text}
use Rattle.home_board.specs.declared.position.Position.{Position}
use Rattle.legal_plays.specs.declared.roll.Roll.{Roll}
use Rattle.query_text.specs.declared.query.Word.{Word}
use Rattle.query_text.specs.declared.query.Word.TheVariants.{Mean as AsksMean, Dist as AsksDist}
use Rattle.query_text.specs.declared.query.Word.TheVariants.{Play as AsksPlay, Loss as AsksLoss}
use Rattle.query_text.specs.declared.query.Word.TheVariants.{Moves as AsksMoves, Rank as AsksRank}
use Rattle.query_text.specs.declared.query.Query.{Query}
use Rattle.query_text.specs.declared.query.LineFault.{LineFault}
use Rattle.query_text.specs.declared.query.LineFault.TheVariants.{BadLine, TooMany}
use Rattle.query_text.specs.Readings.{text_of_word, IsPositionReading, IsThrowReading, IsResultText}
use Rattle.query_text.specs.Readings.{IsResultReading, IsRestFault, IsRestReading, IsReading, both}

-- the byte is a space
abbrev is_space : ℕ → Bool
is_space c = c == 32

-- a text whose first space stands at a place is cut there
pub cut_at : (text : List ℕ) (place : ℕ) → Some place ≡ position is_space text
    → (text ≡ take place text ++ (32 ∷ drop (place + 1) text))
    × (words text ≡ take place text ∷ words (drop (place + 1) text))
cut_at text place e = by (ltb first (length text)) refl e
  where
    first : ℕ
    first = position_or_len is_space text

    by : (b : Bool) → ltb first (length text) ≡ b → Some place ≡ cond b (Some first) None
        → (text ≡ take place text ++ (32 ∷ drop (place + 1) text))
        × (words text ≡ take place text ∷ words (drop (place + 1) text))
    by false t e = cc
    by true t e =
        let low = ltb-true first (length text) t in
        let at : place ≡ first = cc in
        let space = eqb-true _ _ (passes_at_first is_space text 0 low) in
        rw at (
          split_at_first is_space text 0 low
              ∙ ap (λ c. before_first is_space text ++ (c ∷ after_first is_space text)) space,
          slice_split_first is_space text 0 low,
        )

-- one without a space is one word
pub cut_nowhere : (text : List ℕ) → None ≡ position is_space text → words text ≡ text ∷ []
cut_nowhere text e = by (ltb first (length text)) refl e
  where
    first : ℕ
    first = position_or_len is_space text

    by : (b : Bool) → ltb first (length text) ≡ b → None ≡ cond b (Some first) None
        → words text ≡ text ∷ []
    by true t e = cc
    by false t e =
        let high = ltb-false first (length text) t in
        slice_split_none is_space text (λ k d low. fails_before_first is_space text k d
        (omega arith))

-- a text of one word is that word
pub one_word : (text p : List ℕ) → words text ≡ p ∷ [] → text ≡ p
one_word text p e = sym (join_with_byte-slice_split 32 text) ∙ ap (join_with_byte 32) e

-- two dice, as their text tells them, are a roll of that text
roll_of_text : (text : List ℕ) (a b : Die) → text ≡ roll_text a b → IsRollText text (roll_of a b)
roll_of_text text a b e = by (ltb (number a) (number b)) refl
  where
    by : (t : Bool) → ltb (number a) (number b) ≡ t
        → IsRollText text (cond t (record { first = b; second = a })
        (record { first = a; second = b }))
    by true t = record { roll = omega (arith, ltb-true (number a) (number b) t); digits = inr e }
    by false t = record { roll = omega (arith, ltb-false (number a) (number b) t); digits = inl e }

-- the reading of a roll
pub roll_read : (text : List ℕ) (r : Option Roll) → IsSome r ↔ ((a : Die) × (b : Die)
    × (text ≡ roll_text a b))
    → ((a b : Die) → text ≡ roll_text a b → IfSome r (λ roll. roll ≡ roll_of a b))
    → MatchOption r ((v : Throw) → ¬ IsRollText text v) (IsRollText text)
roll_read text None valid value = λ v is. ⊎_elim
    (λ e. let h = valid.1 (v.first, v.second, e) in cc)
    (λ e. let h = valid.1 (v.second, v.first, e) in cc)
    is.digits
roll_read text (Some roll) valid value =
    let w = valid.0 refl in
    let same = value w.0 w.1 w.2 in
    subst (λ v. IsRollText text v) (sym same) (roll_of_text text w.0 w.1 w.2)

-- nor does one whose second part is no roll
pub no_roll : (text a b : List ℕ) → words text ≡ a ∷ words b → ((v : Throw) → ¬ IsRollText b v)
    → IsThrowReading text (Err BadLine)
no_roll text a b parts none p r x v is rolled e =
    let rest : words b ≡ r ∷ [] = cc in
    none v (subst (λ t. IsRollText t v) (sym (one_word b r rest)) rolled)

-- nor does one whose second part is no roll state a position, a roll and a result
pub no_roll_before : (text a rest b c : List ℕ) → words text ≡ a ∷ words rest
    → words rest ≡ b ∷ words c
    → ((v : Throw) → ¬ IsRollText b v) → IsResultReading text (Err BadLine)
no_roll_before text a rest b c parts more none p r q x v y is rolled to e =
    let same : b ≡ r = cc in
    none v (subst (λ t. IsRollText t v) (sym same) rolled)

-- the text of a position and a roll, and that of a result, joined
joined_result : (text a rest b c : List ℕ) (x y : Board) (v : Throw) → text ≡ a ++ (32 ∷ rest)
    → rest ≡ b ++ (32 ∷ c)
    → IsPositionText a x → IsRollText b v → IsPositionText c y → IsResultText text x v y
joined_result text a rest b c x y v e f is rolled to = record {
  throw = a ++ (32 ∷ b);
  throw_is = record { position = a; position_is = is; roll = b; roll_is = rolled; joined = refl };
  position = c;
  position_is = to;
  joined = e ∙ ap (λ t. a ++ (32 ∷ t)) f ∙ sym (append_assoc a (32 ∷ b) (32 ∷ c));
}

-- the readings of its parts give that of a position, a roll and a result
pub result_read : (text a rest b c : List ℕ) (v : Roll) (from to : Result Position LineFault)
    → (text ≡ a ++ (32 ∷ rest)) × (words text ≡ a ∷ words rest) → (rest ≡ b ++ (32 ∷ c))
    × (words rest ≡ b ∷ words c)
    → IsRollText b v → IsPositionReading a from → IsPositionReading c to → IsResultReading text
    (both from v to)
result_read text a rest b c v (Ok x) (Ok y) e f rolled is other = (
  joined_result text a rest b c x y v e.0 f.0 is.0 rolled other.0,
  λ h. ⊎_elim (λ k. is.1 k)
      (λ k. other.1 k) h,
)
result_read text a rest b c v (Ok x) (Err BadLine) e f rolled is other =
    λ p r q x2 w y posed thrown told g.
    let last : words c ≡ q ∷ [] = cc in
    other y (subst (λ t. IsPositionText t y) (sym (one_word c q last)) told)
result_read text a rest b c v (Ok x) (Err TooMany) e f rolled is other = (
  x,
  v,
  other.0,
  joined_result text a rest b c x other.0 v e.0 f.0 is.0 rolled other.1,
  inr other.2,
)
result_read text a rest b c v (Err BadLine) (Ok y) e f rolled is other =
    λ p r q x w z posed thrown told g. let same : a ≡ p = cc in
    is x (subst (λ t. IsPositionText t x) (sym same) posed)
result_read text a rest b c v (Err BadLine) (Err fault) e f rolled is other =
    λ p r q x w z posed thrown told g. let same : a ≡ p = cc in
    is x (subst (λ t. IsPositionText t x) (sym same) posed)
result_read text a rest b c v (Err TooMany) (Ok y) e f rolled is other =
    (is.0, v, y, joined_result text a rest b c is.0 y v e.0 f.0 is.1 rolled other.0, inl is.2)
result_read text a rest b c v (Err TooMany) (Err BadLine) e f rolled is other =
    λ p r q x w y posed thrown told g.
    let last : words c ≡ q ∷ [] = cc in
    other y (subst (λ t. IsPositionText t y) (sym (one_word c q last)) told)
result_read text a rest b c v (Err TooMany) (Err TooMany) e f rolled is other = (
  is.0,
  v,
  other.0,
  joined_result text a rest b c is.0 other.0 v e.0 f.0 is.1 rolled other.1,
  inl is.2,
)

-- the kind of a query
word_in : Asked → Word
word_in (mean_query x) = AsksMean
word_in (dist_query x) = AsksDist
word_in (play_query x v) = AsksPlay
word_in (loss_query x v y) = AsksLoss
word_in (moves_query x v) = AsksMoves
word_in (rank_query x) = AsksRank

-- the kind that a word names, by its first two letters
named : List ℕ → Word
named word =
    cond (eqb (get_or word 1 0) 101) AsksMean (cond (eqb (get_or word 0 0) 109) AsksMoves
    (cond (eqb (get_or word 0 0) 100) AsksDist (cond (eqb (get_or word 0 0) 112) AsksPlay
    (cond (eqb (get_or word 0 0) 108) AsksLoss AsksRank))))

-- the kind that a kind's own word names is that kind
named-text_of_word : (k : Word) → named (text_of_word k) ≡ k
unfolding named
named-text_of_word AsksMean = refl
named-text_of_word AsksDist = refl
named-text_of_word AsksPlay = refl
named-text_of_word AsksLoss = refl
named-text_of_word AsksMoves = refl
named-text_of_word AsksRank = refl

-- two kinds have two words
words_apart : (k l : Word) → text_of_word k ≡ text_of_word l → k ≡ l
words_apart k l e = sym (named-text_of_word k) ∙ ap named e ∙ named-text_of_word l

-- the first word of a line is that of what it asks
first_word : (line word : List ℕ) (more : List (List ℕ)) (q : Asked) → words line ≡ word ∷ more
    → HasWords line q → word ≡ text_of_word (word_in q)
unfolding word_in
first_word line word more (mean_query x) e has = cc (has.2)
first_word line word more (dist_query x) e has = cc (has.2)
first_word line word more (play_query x v) e has = cc (has.4)
first_word line word more (loss_query x v y) e has = cc (has.6)
first_word line word more (moves_query x v) e has = cc (has.4)
first_word line word more (rank_query x) e has = cc (has.2)

-- a line asks nothing where its first word is that of no kind
pub no_kind : (line word : List ℕ) (more : List (List ℕ)) (q : Asked) → words line ≡ word ∷ more
    → ((k : Word) → word ≢ text_of_word k) → HasWords line q → ⊥
no_kind line word more q e none has = none (word_in q) (first_word line word more q e has)

-- a line whose rest is refused as bad asks nothing
bad_rest : (line rest : List ℕ) (q : Asked) → words line ≡ text_of_word (word_in q) ∷ words rest
    → IsRestFault (word_in q) rest BadLine → HasWords line q → ⊥
unfolding word_in
bad_rest line rest (mean_query x) e bad has = let one : words rest ≡ has.0 ∷ [] = cc (has.2) in
    bad x (subst (λ t. IsPositionText t x) (sym (one_word rest has.0 one)) has.1)
bad_rest line rest (dist_query x) e bad has = let one : words rest ≡ has.0 ∷ [] = cc (has.2) in
    bad x (subst (λ t. IsPositionText t x) (sym (one_word rest has.0 one)) has.1)
bad_rest line rest (rank_query x) e bad has = let one : words rest ≡ has.0 ∷ [] = cc (has.2) in
    bad x (subst (λ t. IsPositionText t x) (sym (one_word rest has.0 one)) has.1)
bad_rest line rest (play_query x v) e bad has = bad has.0 has.1 x v has.2 has.3 (cc (has.4))
bad_rest line rest (moves_query x v) e bad has = bad has.0 has.1 x v has.2 has.3 (cc (has.4))
bad_rest line rest (loss_query x v y) e bad has = bad has.0 has.1 has.2 x v y has.3 has.4 has.5
    (cc (has.6))

-- a text of a position and a roll after a word, bracketed the other way
throw_joined : (word p r : List ℕ) → word ++ (p ++ (32 ∷ r)) ≡ word ++ p ++ codes " " ++ r
throw_joined word p r = sym (append_assoc (word ++ p) (codes " ") r ∙ append_assoc word p
    (codes " " ++ r))

-- a text of a position, a roll and a result after a word, bracketed the other way
loss_joined : (p r q : List ℕ)
    → codes "loss " ++
    ((p ++ (32 ∷ r)) ++ (32 ∷ q)) ≡ codes "loss " ++ p ++ codes " " ++ r ++ codes " " ++ q
loss_joined p r q =
    sym (append_assoc (codes "loss ") (p ++ (32 ∷ r)) (32 ∷ q))
    ∙ ap (λ t. t ++ (32 ∷ q)) (throw_joined (codes "loss ") p r)
    ∙ sym (append_assoc (codes "loss " ++ p ++ codes " " ++ r) (codes " ") q)

-- a line whose rest has too many checkers in a position asks that
too_many_rest : (line rest : List ℕ) (k : Word) → line ≡ text_of_word k ++ (32 ∷ rest)
    → IsRestFault k rest TooMany → (q : Asked) × IsQuery line q × HasTooMany q
too_many_rest line rest AsksMean e (x, is, many) = (mean_query x, (rest, is, e), many)
too_many_rest line rest AsksDist e (x, is, many) = (dist_query x, (rest, is, e), many)
too_many_rest line rest AsksRank e (x, is, many) = (rank_query x, (rest, is, e), many)
too_many_rest line rest AsksPlay e (x, v, is, many) = (
  play_query x v,
  (
    is.position,
    is.roll,
    is.position_is,
    is.roll_is,
    e
        ∙ ap (λ t. codes "play " ++ t) is.joined
        ∙ throw_joined (codes "play ") is.position is.roll,
  ),
  many,
)
too_many_rest line rest AsksMoves e (x, v, is, many) = (
  moves_query x v,
  (
    is.position,
    is.roll,
    is.position_is,
    is.roll_is,
    e
        ∙ ap (λ t. codes "moves " ++ t) is.joined
        ∙ throw_joined (codes "moves ") is.position is.roll,
  ),
  many,
)
too_many_rest line rest AsksLoss e (x, v, y, is, many) =
    let t = is.throw_is in (
      loss_query x v y,
      (
        t.position,
        t.roll,
        is.position,
        t.position_is,
        t.roll_is,
        is.position_is,
        e ∙ ap (λ u. codes "loss " ++ u) (is.joined ∙ ap (λ u. u ++ (32 ∷ is.position)) t.joined)
            ∙ loss_joined t.position t.roll is.position,
      ),
      many,
    )

-- the reading of what stands after the first word is that of the line
pub rest_read : (line word rest : List ℕ) (k : Word) (r : Result Query LineFault)
    → ((line : List ℕ) (q : Asked) → IsQuery line q ↔ HasWords line q)
    → (line ≡ word ++ (32 ∷ rest)) × (words line ≡ word ∷ words rest) → word ≡ text_of_word k
    → IsRestReading k rest r → IsReading line r
rest_read line word rest k (Ok query) law parts e read =
    rw (parts.0 ∙ ap (λ w. w ++ (32 ∷ rest)) e) read
rest_read line word rest k (Err BadLine) law parts e bad = λ q is.
    let has = (law line q).0 is in
    let same : k ≡ word_in q = words_apart k (word_in q) (sym e ∙ first_word line word
    (words rest) q parts.1 has) in
    bad_rest line rest q (parts.1 ∙ ap (λ w. w ∷ words rest) (e ∙ ap text_of_word same))
    (subst (λ l. IsRestFault l rest BadLine) same bad) has
rest_read line word rest k (Err TooMany) law parts e many = too_many_rest line rest k (parts.0
    ∙ ap (λ w. w ++ (32 ∷ rest)) e) many
