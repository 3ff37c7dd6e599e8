use Rattle.std.proofs.Common.{◌≡◌, List, ℕ, sum, length, sym, ap, ◌∙◌, arith}
use Rattle.notation.specs.Letters.{field}
use Rattle.notation.specs.Ids.{key, IsPositionId}
use Rattle.notation.proofs.Keys.{key_same}
use Rattle.notation.proofs.ids.read_position_id.Goals as goal

-- what is read of a Position ID is what it tells
same_of : (text theirs mine ts ms : List ℕ) (bits a b : ℕ) → (is : IsPositionId text theirs mine) →
    bits ≡ key ts a → a ≡ key ms b → length ts ≡ 25 → length ms ≡ 25 →
    bits ≡ key theirs (key mine 0) → (ts ≡ theirs) × ((ms ≡ mine) × (b ≡ 0))
same_of text theirs mine ts ms bits a b is one two long_one long_two e =
    let first = key_same ts theirs a (key mine 0) (long_one ∙ sym is.their_places) (sym one ∙ e) in
    (first.0, key_same ms mine b 0 (long_two ∙ sym is.my_places) (sym two ∙ first.1))

pub returns-then-rest-ne0 : goal.returns-then-rest-ne0
returns-then-rest-ne0 c = λ theirs mine is.
    let same = same_of c.args.text.now theirs mine _ _ _ _ _ is c.read_side-rest.ensures.key
    c.read_side-rest-2.ensures.key c.read_side-rest.ensures.long c.read_side-rest-2.ensures.long
    (c.field.ensures.value ∙ ap (λ l. field l 0 80) c.unpadded-letters.ensures ∙ is.bits) in
    c.if-rest-ne0.true same.1.1

pub returns-then-from-gt30 : goal.returns-then-from-gt30
returns-then-from-gt30 c = λ theirs mine is.
    let same = same_of c.args.text.now theirs mine _ _ _ _ _ is c.read_side-rest.ensures.key
    c.read_side-rest-2.ensures.key c.read_side-rest.ensures.long c.read_side-rest-2.ensures.long
    (c.field.ensures.value ∙ ap (λ l. field l 0 80) c.unpadded-letters.ensures ∙ is.bits) in
    omega (
      arith,
      is.ten_bytes,
      ap sum same.0,
      ap sum same.1.0,
      c.if-from-gt30.true,
      c.from.ensures,
      c.from-2.ensures,
      c.checkers.ensures,
      c.checkers-2.ensures,
    )
