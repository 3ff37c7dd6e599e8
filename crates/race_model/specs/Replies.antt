-- The reply to each line of input, by the numbers of a book, which are counted over so many
-- sequences; that of a file is its book's.
use Rattle.std.specs.Prelude.{◌≡◌, ℕ, suc, ◌+◌, ◌*◌, ◌/◌, ◌%◌, ◌<◌, List, [], ◌∷◌, ◌++◌, length, flat_map}
use Rattle.std.specs.Prelude.{slice_index_or, codes, decimal}
use Rattle.std.specs.List.{concat}
use Rattle.race_model.specs.Positions.{Board, finished}
use Rattle.race_model.specs.PositionText.{IsPositionText}
use Rattle.race_model.specs.Dice.{Throw}
use Rattle.race_model.specs.Ranks.{rank}
use Rattle.race_model.specs.LocalEquations.{whole}
use Rattle.race_model.specs.Fractions.{IsFraction, IsThousandths}
use Rattle.race_model.specs.Books.{Book, mean_in, recorded_in, share_in, whole_in}
use Rattle.race_model.specs.Files.{book_of}
use Rattle.race_model.specs.Losses.{loss_in, IsMoveListIn}
use Rattle.race_model.specs.FirstPlays.{Move, IsFirstPlay, move_text}
use Rattle.race_model.specs.Queries.{Query, mean_query, dist_query, play_query, loss_query}
use Rattle.race_model.specs.Queries.{moves_query, rank_query, Refusal, bad_line, too_many}
use Rattle.race_model.specs.Queries.{over_bound, at_end, not_legal, IsRefused, IsAccepted}

-- a fraction as text
abbrev pub fraction_text : ℕ → ℕ → List ℕ
fraction_text n d = decimal n ++ codes "/" ++ decimal d

-- q thousandths as text, with three digits after the point
abbrev pub thousandths_text : ℕ → List ℕ
thousandths_text q =
    decimal (q / 1000) ++ codes "."
    ++ (48 + q / 100 % 10) ∷ (48 + q / 10 % 10) ∷ (48 + q % 10) ∷ []

-- the text is the number a / whole in lowest terms
pub record IsShareTextOver (whole a : ℕ) (text : List ℕ) : Type 0 where
  pub numerator : ℕ
  pub denominator : ℕ
  pub lowest : IsFraction a whole numerator denominator
  pub written : text ≡ fraction_text numerator denominator

-- the mean, the effective pip count, and the effective pip count in thousandths
pub record IsMeanReplyOver (whole total : ℕ) (text : List ℕ) : Type 0 where
  pub numerator : ℕ
  pub denominator : ℕ
  pub mean_is : IsFraction total whole numerator denominator
  pub pips_numerator : ℕ
  pub pips_denominator : ℕ
  pub pips_are : IsFraction (49 * total) (6 * whole) pips_numerator pips_denominator
  pub thousandths : ℕ
  pub rounded : IsThousandths pips_numerator pips_denominator thousandths
  pub written : text
      ≡ codes "mean " ++ fraction_text numerator denominator ++ codes " epc "
      ++ fraction_text pips_numerator pips_denominator ++ codes " "
      ++ thousandths_text thousandths

-- the part of a distribution for exactly k rolls: none where there is no share
pub record IsSharePartOver (whole share k : ℕ) (part : List ℕ) : Type 0 where
  pub none : share ≡ 0 → part ≡ []
  pub some : 0 < share →
      (text : List ℕ) × IsShareTextOver whole share text
      × (part ≡ codes " " ++ decimal k ++ codes ":" ++ text)

-- the shares of 0 rolls and of up to so many
pub record IsDistReplyOver (whole most : ℕ) (share : ℕ → ℕ) (text : List ℕ) : Type 0 where
  pub parts : List (List ℕ)
  pub count : length parts ≡ suc most
  pub each : (k : ℕ) → k < suc most →
      IsSharePartOver whole (share k) k (slice_index_or parts k [])
  pub written : text ≡ codes "dist" ++ concat parts

-- a result and its loss
pub record IsChoicePartOver (whole : ℕ) (y : Board) (lost : ℕ) (part : List ℕ) : Type 0 where
  pub position : List ℕ
  pub position_is : IsPositionText position y
  pub fraction : List ℕ
  pub loss_is : IsShareTextOver whole lost fraction
  pub written : part ≡ codes " " ++ position ++ codes ":" ++ fraction

-- the first play to a position, and that position
pub record IsPlayReply (x : Board) (v : Throw) (y : Board) (text : List ℕ) : Type 0 where
  pub moves : List Move
  pub first : IsFirstPlay x v y moves
  pub position : List ℕ
  pub position_is : IsPositionText position y
  pub written : text
      ≡ codes "play" ++ flat_map (λ m. codes " " ++ move_text m) moves ++ codes " to " ++ position

-- every result with its loss
pub record IsMovesReplyOver (whole : ℕ) (b : Book) (x : Board) (v : Throw) (text : List ℕ) : Type 0
  where
    pub results : List Board
    pub listed : IsMoveListIn b x v results
    pub parts : List (List ℕ)
    pub count : length parts ≡ length results
    pub each : (i : ℕ) → i < length results →
        IsChoicePartOver whole (slice_index_or results i finished)
        (loss_in b x v (slice_index_or results i finished)) (slice_index_or parts i [])
    pub written : text ≡ codes "moves" ++ concat parts

-- the answer to a query that is not refused, without the line feed
abbrev pub IsAnswerOver : ℕ → Book → Query → List ℕ → Type 0
IsAnswerOver over b (mean_query x) text = IsMeanReplyOver over (mean_in b x) text
IsAnswerOver over b (dist_query x) text =
    IsDistReplyOver over (suc b.further) (share_in b x) text
IsAnswerOver over b (play_query x v) text = IsPlayReply x v (recorded_in b x v) text
IsAnswerOver over b (loss_query x v y) text =
    (fraction : List ℕ) × IsShareTextOver over (loss_in b x v y) fraction
    × (text ≡ codes "loss " ++ fraction)
IsAnswerOver over b (moves_query x v) text = IsMovesReplyOver over b x v text
IsAnswerOver over b (rank_query x) text = text ≡ codes "rank " ++ decimal (rank x)

-- the text of a refusal
abbrev pub refusal_text : Refusal → List ℕ
refusal_text bad_line = codes "error bad-line"
refusal_text too_many = codes "error too-many"
refusal_text over_bound = codes "error over-bound"
refusal_text at_end = codes "error finished"
refusal_text not_legal = codes "error not-legal"

-- the reply to a line, with its line feed: the answer, or the refusal
pub data IsReplyOver (whole : ℕ) (b : Book) (line text : List ℕ) : Type 0 where
  answered : (q : Query) (answer : List ℕ) → IsAccepted b.bound line q →
      IsAnswerOver whole b q answer → text ≡ answer ++ 10 ∷ [] → IsReplyOver whole b line text
  refused : (why : Refusal) → IsRefused b.bound line why →
      text ≡ refusal_text why ++ 10 ∷ [] → IsReplyOver whole b line text

-- the reply to a line by a book, over its sequences
abbrev pub IsReplyIn : Book → List ℕ → List ℕ → Type 0
IsReplyIn b = IsReplyOver (whole_in b) b

-- a distribution by a file, over the sequences of 22 throws
abbrev pub IsDistReply : (ℕ → ℕ) → List ℕ → Type 0
IsDistReply = IsDistReplyOver whole 22

-- the part of a result in a list of moves by a file, over the sequences of 22 throws
abbrev pub IsChoicePart : Board → ℕ → List ℕ → Type 0
IsChoicePart = IsChoicePartOver whole

-- a list of moves by a file, over the sequences of 22 throws
abbrev pub IsMovesReply : List ℕ → Board → Throw → List ℕ → Type 0
IsMovesReply f = IsMovesReplyOver whole (book_of f)

-- the reply to a line by a file, over the sequences of 22 throws
abbrev pub IsReply : List ℕ → List ℕ → List ℕ → Type 0
IsReply f = IsReplyOver whole (book_of f)
