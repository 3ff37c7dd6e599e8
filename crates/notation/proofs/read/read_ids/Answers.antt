use Rattle.std.proofs.Common.{◌≡◌, ◌⊎◌, ◌∙◌, ◌∷◌, [], ℕ, List, Bor, length, map, get_or, sym, ap, subst, refl, arith}
use Rattle.std.proofs.Common.{suc, inl, inr, ⊎_elim}
use Rattle.std.proofs.lemmas.List.{length-map}
use Rattle.notation.specs.declared.told.Told.{Told}
use Rattle.notation.specs.Readings.{AreIds}
use Rattle.notation.specs.Ids.{IsPositionId, IsMatchId}
use Rattle.notation.proofs.Pieces.{listed, told_at}
use Rattle.notation.proofs.read.read_ids.Goals as goal

-- there are one or two words
few_of : (words : List (Bor (List ℕ))) (told : Told) → AreIds (map (λ word. word.now) words) told →
    (length words ≡ 1) ⊎ (length words ≡ 2)
few_of words told is =
    let some = sym (length-map words (λ word. word.now)) ∙ ap length is.first in
    ⊎_elim (λ one. inl (some ∙ ap (λ m. suc (length m)) one.0))
    (λ two. inr (some ∙ ap (λ m. suc (length m)) two.second)) is.rest

pub returns-then-words-ne2 : goal.returns-then-words-ne2
returns-then-words-ne2 c = λ told is.
    ⊎_elim c.if-words-ne1.true c.if-words-ne2.true (few_of c.args.words.now told is)

pub returns-in_default : goal.returns-in_default
returns-in_default c = λ told is.
    let same = told_at (λ word. word.now) c.args.words.now 0 _ _ is.first (omega arith) in
    c.in_default.ensures told.theirs told.mine
    (subst (λ t. IsPositionId t told.theirs told.mine) (sym same) is.is)

pub returns-then-words-eq1 : goal.returns-then-words-eq1
returns-then-words-eq1 c =
    let d : Bor (List ℕ) = record { ref_ptr = (0, 0); now = [] } in
    record {
      id = (get_or c.args.words.now 0 d).now;
      more = [];
      first = listed (λ word. word.now) c.args.words.now 0 1 d (sym c.if-words-eq1.true);
      is = c.in-Some.ensures;
      rest = inl (refl, refl, refl);
    }

pub bounds-words-1 : goal.bounds-words-1
bounds-words-1 c = ⊎_elim (λ two. omega (arith, two.1))
    (λ one. absurd (c.if-words-eq1.false one)) c.else-words-ne1.either

pub returns-in_default-read_match_id : goal.returns-in_default-read_match_id
returns-in_default-read_match_id c = λ told is.
    let some = sym (length-map c.args.words.now (λ word. word.now)) ∙ ap length is.first in
    ⊎_elim (λ one. c.if-words-eq1.false (some ∙ ap (λ m. suc (length m)) one.0))
    (λ two. let both = is.first ∙ ap (λ m. is.id ∷ m) two.second in
    let same = told_at (λ word. word.now) c.args.words.now 1 _ _ both (omega arith) in
    c.in_default-read_match_id.ensures two.player told.roll
    (subst (λ t. IsMatchId t two.player told.roll) (sym same) two.is)) is.rest

pub returns : goal.returns
returns c =
    let d : Bor (List ℕ) = record { ref_ptr = (0, 0); now = [] } in
    let two : length c.args.words.now ≡ 2 =
    ⊎_elim (λ two. two.1) (λ one. absurd (c.if-words-eq1.false one)) c.else-words-ne1.either in
    record {
      id = (get_or c.args.words.now 0 d).now;
      more = (get_or c.args.words.now 1 d).now ∷ [];
      first = listed (λ word. word.now) c.args.words.now 0 2 d (sym two);
      is = c.in-Some.ensures;
      rest = inr (record {
        game = (get_or c.args.words.now 1 d).now;
        second = refl;
        player = c.in-Some-read_match_id.player;
        on_roll = refl;
        is = c.in-Some-read_match_id.ensures;
      });
    }
