-- The text of a list of moves, and the reply that it is.
use Rattle.std.proofs.Common.{◌≡◌, ℕ, ◌<◌, List, [], ◌∷◌, length, codes, map, All, sym, subst, ◌∙◌, arith}
use Rattle.std.proofs.Common.{slice_index_or}
use Rattle.std.proofs.lemmas.List.{get_or-map, length-map}
use Rattle.race_model.specs.Prelude.{Board, finished, Throw, Book, loss_in, IsMoveListIn, IsChoicePartOver}
use Rattle.race_model.specs.Prelude.{IsMovesReplyOver}
use Rattle.fixed_fraction.specs.Board.{board_whole}
use Rattle.query_text.proofs.Parts.{AreParts}
use Rattle.epc_query.specs.declared.choices.RankedChoice.{RankedChoice}
use Rattle.epc_query.specs.Choices.{result_of}
use Rattle.epc_query.specs.Lists.{IsPartOf, IsListText}

-- the parts of all choices are the list of moves
pub list_of_parts : (choices : List RankedChoice) (n : ℕ) (text : List ℕ) → n ≡ length choices →
    AreParts (λ i part. (d : RankedChoice)
    → IsPartOf (slice_index_or choices i d) part) n
    (codes "moves") text → IsListText choices text
list_of_parts choices n text all are = record {
  parts = are.parts;
  count = are.count ∙ all;
  each = λ i d low. are.each i (omega (arith, all)) d;
  written = are.written;
}

-- an item of a list that has one
some_item : {A : Type 0} (xs : List A) (i : ℕ) → i < length xs → A
some_item [] i low = absurd (omega (arith, low))
some_item (x ∷ xs) i low = x

-- the list of moves of all results with their losses is the reply that asks for them
pub moves_reply : (b : Book) (x : Board) (v : Throw)
    (choices : List RankedChoice) (text : List ℕ) → IsMoveListIn b x v (map result_of choices) →
    All (λ choice. choice.loss ≡ loss_in b x v choice.to) choices →
    IsListText choices text → IsMovesReplyOver board_whole b x v text
moves_reply b x v choices text listed losses is = record {
  results = map result_of choices;
  listed = listed;
  parts = is.parts;
  count = is.count ∙ sym (length-map choices result_of);
  each = each;
  written = is.written;
}
  where
    each : (i : ℕ) → i < length (map result_of choices) →
        IsChoicePartOver board_whole (slice_index_or (map result_of choices) i finished)
        (loss_in b x v (slice_index_or (map result_of choices) i finished))
        (slice_index_or is.parts i [])
    each i low =
        let within : i < length choices = omega (arith, length-map choices result_of) in
        let nothing : RankedChoice = some_item choices i within in
        let choice = slice_index_or choices i nothing in
        subst
        (λ y. IsChoicePartOver board_whole y (loss_in b x v y) (slice_index_or is.parts i []))
        (sym (get_or-map result_of choices i nothing finished within))
        (subst
        (λ l. IsChoicePartOver board_whole choice.to l (slice_index_or is.parts i []))
        (losses i nothing within) (is.each i nothing within))
