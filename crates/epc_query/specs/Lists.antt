-- The text of a list of results with their losses.
use Rattle.std.specs.Prelude.{◌≡◌, ℕ, ◌<◌, List, [], ◌++◌, length, slice_index_or, codes}
use Rattle.std.specs.List.{concat}
use Rattle.race_model.specs.Prelude.{IsChoicePartOver}
use Rattle.fixed_fraction.specs.Board.{board_whole}
use Rattle.epc_query.specs.declared.choices.RankedChoice.{RankedChoice}

-- the part of a choice
abbrev pub IsPartOf : RankedChoice → List ℕ → Type 0
IsPartOf choice part = IsChoicePartOver board_whole choice.to choice.loss part

-- the list of moves of these choices, in their order
pub record IsListText (choices : List RankedChoice) (text : List ℕ) : Type 0 where
  pub parts : List (List ℕ)
  pub count : length parts ≡ length choices
  pub each : (i : ℕ) (d : RankedChoice) → i < length choices →
      IsPartOf (slice_index_or choices i d) (slice_index_or parts i [])
  pub written : text ≡ codes "moves" ++ concat parts
