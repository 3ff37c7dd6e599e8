-- How a text is put together that was cut at a line feed.
use Rattle.std.proofs.Common.{◌≡◌, ◌∙◌, ℕ, List, [], ◌∷◌, ◌++◌, take, drop, ap, ap₂, sym, append_assoc}
use Rattle.std.proofs.lemmas.List.{take-append-drop}
use Rattle.std.specs.Str.{IsTrimEnd}
use Rattle.std.specs.Str.Pattern.{HasTextAt}
use Rattle.race_summary.specs.Words.{IsJoined}

-- a text is what stands before a line feed and after it, and the blanks that were cut off
pub joined_at : (text trimmed before after : List ℕ) (i j : ℕ) → IsTrimEnd text trimmed
    → HasTextAt (10 ∷ []) trimmed i j → before ≡ take i trimmed → after ≡ drop j trimmed
    → IsJoined text before after
joined_at text trimmed before after i j cut found front back =
    let blanks = drop cut.0 text in (
      blanks,
      cut.2,
      sym (take-append-drop cut.0 text) ∙ ap (λ t. t ++ blanks) (sym cut.1
          ∙ sym (take-append-drop i trimmed)
          ∙ ap₂ (λ a b. a ++ b) (sym front) (found.split ∙ ap (λ t. 10 ∷ t) (sym back)))
          ∙ append_assoc before (10 ∷ after) blanks,
    )
