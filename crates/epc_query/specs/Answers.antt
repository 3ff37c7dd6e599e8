-- What a reply says of a file and a line.
use Rattle.std.specs.Prelude.{◌≡◌, ℕ, ◌≤◌, List, map, slice_index, All}
use Rattle.race_model.specs.Prelude.{Board, Throw, Legal, rank, bound_of, mean, spread, whole, recorded, IsFraction}
use Rattle.race_model.specs.Prelude.{IsMean, IsEffectivePips, IsFirstPlay, loss, IsMoveList, mean_query, dist_query}
use Rattle.race_model.specs.Prelude.{play_query, loss_query, moves_query, rank_query, IsRefused, IsAccepted}
use Rattle.legal_plays.specs.MoveLists.{moves_of}
use Rattle.query_text.specs.declared.reply.Choice.{Choice}
use Rattle.query_text.specs.declared.reply.Reply.{Reply}
use Rattle.query_text.specs.declared.reply.Reply.TheVariants.{Mean, Dist, Play, Loss, Moves, Rank, Refused}
use Rattle.query_text.specs.Texts.{why}

-- the loss of a choice is that of its result
abbrev pub HasLoss : List ℕ → Board → Throw → Choice → Type 0
HasLoss f x v choice = IsFraction
    (loss f x v choice.to) whole choice.loss.numerator choice.loss.denominator

-- the choices are every result of a roll, by rising loss and then by rising rank, each with its
-- loss
pub record AreChoices (f : List ℕ) (x : Board) (v : Throw) (choices : List Choice) : Type 0 where
  pub listed : IsMoveList f x v (map (λ choice. choice.to) choices)
  pub losses : All (HasLoss f x v) choices

-- the reply is what the file records for the query of the line, or why the line is refused
abbrev pub IsReplyTo : List ℕ → List ℕ → Reply → Type 0
IsReplyTo f line (Mean rolls pips) =
    (x : Board) × IsAccepted (bound_of f) line (mean_query x)
    × IsMean (mean f x) rolls.numerator rolls.denominator
    × IsEffectivePips (mean f x) pips.numerator pips.denominator
IsReplyTo f line (Dist shares) =
    (x : Board) × IsAccepted (bound_of f) line (dist_query x)
    × ((k : ℕ) → k ≤ 22 → slice_index shares k ≡ spread f x k)
IsReplyTo f line (Play play to) =
    (x : Board) × (v : Throw) × IsAccepted (bound_of f) line (play_query x v)
    × (to ≡ recorded f x v) × Legal x v to
    × IsFirstPlay x v to (moves_of play.items)
IsReplyTo f line (Loss lost) =
    (x : Board) × (v : Throw) × (y : Board) × IsAccepted (bound_of f) line (loss_query x v y)
    × IsFraction (loss f x v y) whole lost.numerator lost.denominator
IsReplyTo f line (Moves choices) =
    (x : Board) × (v : Throw) × IsAccepted (bound_of f) line (moves_query x v)
    × AreChoices f x v choices.items
IsReplyTo f line (Rank number) = (x : Board) × IsAccepted (bound_of f) line (rank_query x)
    × (number ≡ rank x)
IsReplyTo f line (Refused refusal) = IsRefused (bound_of f) line (why refusal)
