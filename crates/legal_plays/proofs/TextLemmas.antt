-- The texts of moves and plays.
use Rattle.std.proofs.Common.{flat_map, codes, append-nil, ◌≡◌, ℕ, ◌+◌, ◌<◌, ◌≤◌, List, [], ◌∷◌, ◌++◌, length, get_or}
use Rattle.std.proofs.Common.{take, map, refl, sym, ◌∙◌, ap, append_assoc, arith, decimal}
use Rattle.std.specs.List.{join_with_byte}
use Rattle.std.proofs.lemmas.Fmt.{length-decimal-le}
use Rattle.std.proofs.lemmas.List.{take_more, length-take-le, map-append, length-map}
use Rattle.legal_plays.specs.declared.moves.Move.{Move}
use Rattle.race_model.specs.Prelude.{move_text}
use Rattle.legal_plays.specs.MoveLists.{move_of, moves_of}
use Rattle.legal_plays.specs.Texts.{play_text}

-- the number of a point has one digit
pub one_digit : (n : ℕ) → n ≤ 6 → length (decimal n) ≤ 1
one_digit n low = length-decimal-le 1 n (omega arith) (omega arith) (omega arith)

-- one more piece comes after the byte between
join_with_byte-more : (c : ℕ) (xs : List (List ℕ)) (y : List ℕ) → 0 < length xs →
    join_with_byte c (xs ++ y ∷ []) ≡ join_with_byte c xs ++ (c ∷ y)
join_with_byte-more c [] y some = absurd (omega arith)
join_with_byte-more c (x ∷ []) y some = refl
join_with_byte-more c (x ∷ z ∷ xs) y some =
    ap (λ t. x ++ (c ∷ t)) (join_with_byte-more c (z ∷ xs) y (omega arith))
    ∙ sym (append_assoc x (c ∷ join_with_byte c (z ∷ xs)) (c ∷ y))

-- the text of the first move
pub play_text-first : (moves : List Move) (i : ℕ) (m : Move) → i ≡ 0 → i < length moves →
    m ≡ get_or moves i m → play_text (moves_of (take (i + 1) moves)) ≡ move_text (move_of m)
play_text-first moves i m none low at =
    let only : take i moves ≡ [] = ap (λ n. take n moves) none in
    ap (λ ms. play_text (moves_of ms))
    (take_more moves i m low
    ∙ ap (λ n. take i moves ++ n ∷ []) (sym at) ∙ ap (λ xs. xs ++ m ∷ []) only)

-- one more move comes after a space
pub play_text-next : (moves : List Move) (i : ℕ) (m : Move) → 0 < i → i < length moves →
    m ≡ get_or moves i m → play_text (moves_of (take (i + 1) moves))
    ≡ play_text (moves_of (take i moves)) ++ (32 ∷ move_text (move_of m))
play_text-next moves i m some low at =
    let before = moves_of (take i moves) in
    ap (λ ms. play_text (moves_of ms))
    (take_more moves i m low ∙ ap (λ n. take i moves ++ n ∷ []) (sym at))
    ∙ ap play_text (map-append move_of (take i moves) (m ∷ []))
    ∙ ap (join_with_byte 32) (map-append move_text before (move_of m ∷ []))
    ∙ join_with_byte-more 32 (map move_text before) (move_text (move_of m))
    (omega (
      arith,
      length-map before move_text,
      length-map (take i moves) move_of,
      length-take-le i moves (omega arith),
    ))
