-- The text of what a line is answered with is the reply to the line.
use Rattle.std.proofs.Common.{◌≡◌, ℕ, ◌<◌, List, [], ◌∷◌, ◌++◌, length, get_or, map, codes, Contains, refl, ap, sym}
use Rattle.std.proofs.Common.{subst, ◌∙◌, arith, decimal, slice_index, flat_map}
use Rattle.std.specs.List.{concat}
use Rattle.std.proofs.lemmas.List.{length-map, get_or-map}
use Rattle.std.proofs.lemmas.List.Elements.{All-contains_itself}
use Rattle.race_model.specs.Prelude.{Board, IsPosition, finished, Throw, Legal, bound_of, spread, loss, mean_query}
use Rattle.race_model.specs.Prelude.{dist_query, play_query, loss_query, moves_query, rank_query, IsAccepted, whole}
use Rattle.race_model.specs.Prelude.{IsPlayReply, IsChoicePart, IsMovesReply, IsReply, answered, refused, fraction_text}
use Rattle.query_text.specs.declared.reply.Choice.{Choice}
use Rattle.query_text.specs.declared.reply.Reply.{Reply}
use Rattle.query_text.specs.declared.reply.Reply.TheVariants.{Mean, Dist, Play, Loss, Moves, Rank, Refused}
use Rattle.query_text.specs.Texts.{IsTextOf, why, choice_text, list_text, position_text}
use Rattle.epc_query.specs.Answers.{HasLoss, AreChoices, IsReplyTo}
use Rattle.query_text.proofs.Parts.{same_dist}
use Rattle.query_text.proofs.Texts.{position_text_states}

-- the position that an accepted query of a play is about
play_position : (bound : ℕ) (line : List ℕ) (x : Board) (v : Throw) → IsAccepted bound line
    (play_query x v) → IsPosition x
play_position bound line x v is = record { six = is.query.2.six; few = omega (arith, is.few) }

-- the position that an accepted query of a list of moves is about
moves_position : (bound : ℕ) (line : List ℕ) (x : Board) (v : Throw) → IsAccepted bound line
    (moves_query x v) → IsPosition x
moves_position bound line x v is = record { six = is.query.2.six; few = omega (arith, is.few) }

-- the part of a choice
choice_part : (f : List ℕ) (x : Board) (v : Throw) (choice : Choice) → IsPosition choice.to
    → HasLoss f x v choice
    → IsChoicePart choice.to (loss f x v choice.to) (choice_text choice)
choice_part f x v choice is lost = record {
  position = position_text choice.to;
  position_is = position_text_states choice.to is;
  fraction = fraction_text choice.loss.numerator choice.loss.denominator;
  loss_is = record {
    numerator = choice.loss.numerator;
    denominator =
        choice.loss.denominator;
    lowest = lost;
    written = refl;
  };
  written = refl;
}

-- the texts of choices, one after another
joined_texts : (choices : List Choice) → flat_map choice_text choices ≡ concat
    (map choice_text choices)
joined_texts [] = refl
joined_texts (choice ∷ choices) = ap (λ t. choice_text choice ++ t) (joined_texts choices)

-- the reply to a list of moves
moves_reply : (f : List ℕ) (x : Board) (v : Throw) (choices : List Choice) (text : List ℕ)
    → ((y : Board) → Legal x v y → IsPosition y) → AreChoices f x v choices
    → text ≡ codes "moves" ++ flat_map choice_text choices
    → IsMovesReply f x v text
moves_reply f x v choices text legal are e = record {
  results = map (λ choice. choice.to) choices;
  listed = are.listed;
  parts = map choice_text choices;
  count = length-map choices choice_text ∙ sym (length-map choices (λ choice. choice.to));
  each = λ i low.
      let within : i < length choices = omega (arith, length-map choices (λ choice. choice.to)) in
      let none : Choice = record {
        to = finished;
        loss = record {
          numerator = 0;
          denominator =
              1;
        };
      } in
      let choice = get_or choices i none in
      let to : get_or (map (λ choice. choice.to) choices) i finished ≡ choice.to = get_or-map
      (λ choice. choice.to) choices i none finished within in
      let part : get_or (map choice_text choices) i [] ≡ choice_text choice =
      get_or-map choice_text choices i none [] within in
      let listed : Contains (map (λ choice. choice.to) choices) choice.to =
      subst (Contains (map (λ choice. choice.to) choices)) to
      (All-contains_itself (map (λ choice. choice.to) choices) i finished low) in
      let is = legal choice.to ((are.listed.members choice.to).0 listed) in
      rw (to, part) (choice_part f x v choice is (are.losses i none within));
  written = e ∙ ap (λ t. codes "moves" ++ t) (joined_texts choices);
}

module _ (position : (x : Board) (v : Throw) (y : Board) → IsPosition x → Legal x v y
    → IsPosition y) where
  -- the text of every result of a roll by what it costs is the reply to the line that asks so
  list_is_reply : (f line : List ℕ) (x : Board) (v : Throw) (choices : List Choice)
      → IsAccepted (bound_of f) line (moves_query x v) → AreChoices f x v choices
      → IsReply f line (list_text choices ++ 10 ∷ [])
  list_is_reply f line x v choices accepted are =
      answered (moves_query x v) (list_text choices) accepted
      (moves_reply f x v choices (list_text choices)
      (λ y legal. position x v y (moves_position _ line x v accepted) legal) are refl) refl

  -- the text of what a line is answered with is the reply
  pub reply_text : (f line : List ℕ) (reply : Reply) (text : List ℕ) → IsReplyTo f line reply
      → IsTextOf reply text
      → IsReply f line (text ++ 10 ∷ [])
  reply_text f line (Mean rolls pips) text (x, accepted, mean_is, pips_are) is = answered
      (mean_query x) text accepted (record {
        numerator = rolls.numerator;
        denominator = rolls.denominator;
        mean_is = mean_is;
        pips_numerator = pips.numerator;
        pips_denominator = pips.denominator;
        pips_are = pips_are;
        thousandths = is.thousandths;
        rounded = is.rounded;
        written = is.written;
      }) refl
  reply_text f line (Dist shares) text (x, accepted, same) is =
      answered (dist_query x) text accepted (same_dist whole 22 (slice_index shares)
      (spread f x) text same is) refl
  reply_text f line (Play play to) text (x, v, accepted, same, legal, first) is =
      answered (play_query x v) text accepted (subst (λ y. IsPlayReply x v y text) same (record {
        moves = _;
        first = first;
        position = position_text to;
        position_is = position_text_states to
            (position x v to (play_position _ line x v accepted) legal);
        written = is;
      })) refl
  reply_text f line (Loss lost) text (x, v, y, accepted, lowest) is =
      answered (loss_query x v y) text accepted (
        fraction_text lost.numerator lost.denominator,
        record {
          numerator = lost.numerator;
          denominator = lost.denominator;
          lowest =
              lowest;
          written = refl;
        },
        is,
      ) refl
  reply_text f line (Moves choices) text (x, v, accepted, are) is =
      rw is (list_is_reply f line x v choices.items accepted are)
  reply_text f line (Rank number) text (x, accepted, same) is =
      answered (rank_query x) text accepted (is ∙ ap (λ n. codes "rank " ++ decimal n) same) refl
  reply_text f line (Refused refusal) text refused_as is =
      refused (why refusal) refused_as (ap (λ t. t ++ 10 ∷ []) is)
