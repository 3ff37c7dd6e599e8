-- The texts of positions, plays and shares.
use Rattle.std.proofs.Common.{◌≡◌, ℕ, ◌+◌, ◌<◌, List, [], ◌∷◌, ◌++◌, length, get_or, take, drop, map, codes, ap, sym}
use Rattle.std.proofs.Common.{◌∙◌, arith, append_assoc, flat_map}
use Rattle.std.specs.List.{join_with_byte}
use Rattle.std.proofs.lemmas.List.{append-nil, take_more, take-append-drop}
use Rattle.std.proofs.lemmas.Grind.{flat_map-append}
use Rattle.race_model.specs.Prelude.{Board, IsPosition, IsPositionText}
use Rattle.race_model.proofs.Positions.OneText.{one_text}
use Rattle.home_board.proofs.Written.{joined_states}
use Rattle.query_text.specs.Texts.{position_text}

-- counts in decimal with commas between are the text of the position
pub position_text_states : (x : Board) → IsPosition x → IsPositionText (position_text x) x
position_text_states x is = joined_states x is

-- counts in decimal with commas between are the only text of the position
pub position_text_is : (x : Board) (text : List ℕ) → IsPosition x → IsPositionText text x
    → text ≡ position_text x
position_text_is x text is states = one_text x text (position_text x) states
    (position_text_states x is)

-- pieces with a space between, and one before them, have a space before each
pub spaces_before : {X : Type 0} (f : X → List ℕ) (xs : List X) → 0 < length xs
    → codes " " ++ join_with_byte 32 (map f xs) ≡ flat_map (λ x. codes " " ++ f x) xs
spaces_before f [] some = absurd (omega arith)
spaces_before f (x ∷ []) some = ap (λ t. 32 ∷ t) (sym (append-nil (f x)))
spaces_before f (x ∷ y ∷ xs) some = ap (λ t. 32 ∷ (f x ++ t))
    (spaces_before f (y ∷ xs) (omega arith))

-- digits after a point, added one after the other
pub digits_added : (before whole digits : List ℕ)
    → ((before ++ whole) ++ codes ".") ++ digits ≡ before ++ (whole ++ codes "." ++ digits)
digits_added before whole digits = simp append_assoc

-- the texts of the first items, and then those of the others
pub texts_split : {X : Type 0} (f : X → List ℕ) (before after : List ℕ) (xs : List X) (n : ℕ)
    → (before ++ flat_map f (take n xs)) ++
    (flat_map f (drop n xs) ++ after) ≡ before ++ flat_map f xs ++ after
texts_split f before after xs n =
    append_assoc before (flat_map f (take n xs)) (flat_map f (drop n xs) ++ after)
    ∙ ap (λ t. before ++ t)
    (sym (append_assoc (flat_map f (take n xs)) (flat_map f (drop n xs)) after))
    ∙ ap (λ t. before ++ (t ++ after)) (sym (flat_map-append f (take n xs) (drop n xs))
    ∙ ap (flat_map f) (take-append-drop n xs))
    ∙ sym (append_assoc before (flat_map f xs) after)

-- the text of one item more
pub texts_more : {X : Type 0} (f : X → List ℕ) (before : List ℕ) (xs : List X) (n : ℕ) (x : X)
    → n < length xs → x ≡ get_or xs n x
    → (before ++ flat_map f (take n xs)) ++ f x ≡ before ++ flat_map f (take (n + 1) xs)
texts_more f before xs n x low e =
    append_assoc before (flat_map f (take n xs)) (f x)
    ∙ ap (λ t. before ++ t) (
    ap (λ t. flat_map f (take n xs) ++ t) (sym (append-nil (f x)))
    ∙ sym (flat_map-append f (take n xs) (x ∷ []))
    ∙ ap (λ y. flat_map f (take n xs ++ y ∷ [])) e
    ∙ ap (flat_map f) (sym (take_more xs n x low))
    )
