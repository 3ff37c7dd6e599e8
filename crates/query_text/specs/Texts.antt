-- The texts of replies and levels.
use Rattle.std.specs.Prelude.{◌≡◌, ℕ, List, ◌++◌, map, flat_map, slice_index, codes, decimal}
use Rattle.std.specs.List.{join_with_byte}
use Rattle.race_model.specs.Prelude.{Board, IsThousandths, move_text, Refusal as Why, bad_line, too_many, over_bound}
use Rattle.race_model.specs.Prelude.{at_end, not_legal, fraction_text, thousandths_text, refusal_text, IsDistReply}
use Rattle.fixed_fraction.specs.Ratios.{Ratio}
use Rattle.legal_plays.specs.MoveLists.{moves_of}
use Rattle.query_text.specs.declared.reply.Choice.{Choice}
use Rattle.query_text.specs.declared.reply.Level.{Level}
use Rattle.query_text.specs.declared.reply.Refusal.{Refusal}
use Rattle.query_text.specs.declared.reply.Refusal.TheVariants.{BadLine, TooMany, OverBound, Finished, NotLegal}
use Rattle.query_text.specs.declared.reply.Reply.{Reply}
use Rattle.query_text.specs.declared.reply.Reply.TheVariants.{Mean, Dist, Play, Loss, Moves, Rank, Refused}

-- the text of a position: its six counts in decimal with commas between
abbrev pub position_text : Board → List ℕ
position_text x = join_with_byte 44 (map decimal x)

-- the refusal in the words of the definitions
abbrev pub why : Refusal → Why
why BadLine = bad_line
why TooMany = too_many
why OverBound = over_bound
why Finished = at_end
why NotLegal = not_legal

-- a fraction as text
abbrev pub ratio_text : Ratio → List ℕ
ratio_text ratio = fraction_text ratio.numerator ratio.denominator

-- a result and its loss, after a space
abbrev pub result_text : Board → ℕ → ℕ → List ℕ
result_text y n d = codes " " ++ position_text y ++ codes ":" ++ fraction_text n d

-- the share of k rolls, after a space
abbrev pub share_text : ℕ → Ratio → List ℕ
share_text k share = codes " " ++ decimal k ++ codes ":" ++ ratio_text share

-- a choice with its loss, after a space
abbrev pub choice_text : Choice → List ℕ
choice_text choice = result_text choice.to choice.loss.numerator choice.loss.denominator

-- a list of moves, without its line feed
abbrev pub list_text : List Choice → List ℕ
list_text choices = codes "moves" ++ flat_map choice_text choices

-- the line of a level, without its line feed
abbrev pub level_text : Level → List ℕ
level_text level =
    codes "pips " ++ decimal level.pips ++ codes " positions " ++ decimal level.positions
    ++ codes " least "
    ++ ratio_text level.least ++ codes " greatest " ++ ratio_text level.greatest

-- a mean and an effective pip count, which also stands there in thousandths
pub record IsMeanText (mean pips : Ratio) (text : List ℕ) : Type 0 where
  pub thousandths : ℕ
  pub rounded : IsThousandths pips.numerator pips.denominator thousandths
  pub written : text
      ≡ codes "mean " ++ ratio_text mean ++ codes " epc " ++ ratio_text pips ++ codes " "
      ++ thousandths_text thousandths

-- the text of a reply, without its line feed
abbrev pub IsTextOf : Reply → List ℕ → Type 0
IsTextOf (Mean mean pips) text = IsMeanText mean pips text
IsTextOf (Dist spread) text = IsDistReply (slice_index spread) text
IsTextOf (Play play to) text =
    text ≡ codes "play" ++ flat_map (λ m. codes " " ++ move_text m)
    (moves_of play.items) ++ codes " to " ++ position_text to
IsTextOf (Loss loss) text = text ≡ codes "loss " ++ ratio_text loss
IsTextOf (Moves choices) text = text ≡ list_text choices.items
IsTextOf (Rank rank) text = text ≡ codes "rank " ++ decimal rank
IsTextOf (Refused refusal) text = text ≡ refusal_text (why refusal)
