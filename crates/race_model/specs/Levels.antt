-- The positions of one pip count by a book, and the line that an audit writes of them; those of a
-- file are its book's.
use Rattle.std.specs.Prelude.{◌≡◌, ℕ, ◌-◌, ◌≤◌, List, ◌++◌, codes, decimal}
use Rattle.race_model.specs.Positions.{Board, IsPosition, pips}
use Rattle.race_model.specs.Ranks.{count_to, first_of}
use Rattle.race_model.specs.Books.{Book, mean_in, whole_in}
use Rattle.race_model.specs.Files.{book_of}
use Rattle.race_model.specs.Replies.{IsShareTextOver}

-- how many positions have exactly p pips
abbrev pub level_count : ℕ → ℕ
level_count p = count_to p - first_of p

-- the least and the greatest mean that a book says of the positions of exactly p pips
pub record IsLevelIn (b : Book) (p least greatest : ℕ) : Type 0 where
  pub least_reached : (x : Board) × IsPosition x × (pips x ≡ p) × (mean_in b x ≡ least)
  pub none_under : (x : Board) → IsPosition x → pips x ≡ p → least ≤ mean_in b x
  pub greatest_reached : (x : Board) × IsPosition x × (pips x ≡ p) × (mean_in b x ≡ greatest)
  pub none_over : (x : Board) → IsPosition x → pips x ≡ p → mean_in b x ≤ greatest

-- the line of a level, without its line feed
pub record IsLevelLineOver (whole : ℕ) (b : Book) (p : ℕ) (text : List ℕ) : Type 0 where
  pub least : ℕ
  pub greatest : ℕ
  pub level : IsLevelIn b p least greatest
  pub least_text : List ℕ
  pub least_is : IsShareTextOver whole least least_text
  pub greatest_text : List ℕ
  pub greatest_is : IsShareTextOver whole greatest greatest_text
  pub written : text
      ≡ codes "pips " ++ decimal p ++ codes " positions " ++ decimal (level_count p)
      ++ codes " least " ++ least_text ++ codes " greatest " ++ greatest_text

-- the line of a level by a book, without its line feed
abbrev pub IsLevelLineIn : Book → ℕ → List ℕ → Type 0
IsLevelLineIn b = IsLevelLineOver (whole_in b) b

-- the least and the greatest mean of a pip count, by a file
abbrev pub IsLevel : List ℕ → ℕ → ℕ → ℕ → Type 0
IsLevel f = IsLevelIn (book_of f)
