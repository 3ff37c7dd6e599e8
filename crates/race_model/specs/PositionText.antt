-- The text of a position: six counts with commas between, that of point 1 first.
use Rattle.std.specs.Prelude.{◌≡◌, ℕ, ◌+◌, ◌-◌, ◌*◌, Bool, ◌&&◌, ◌==◌, nat_le, if◌then◌else◌}
use Rattle.std.specs.Prelude.{Option, Some, None, List, [], ◌∷◌, length, map}
use Rattle.std.specs.List.{slice_split}

-- the code of a digit 0 to 9
abbrev pub is_digit : ℕ → Bool
is_digit c = nat_le 48 c && nat_le c 57

-- the code of a digit 1 to 9
abbrev pub is_leading_digit : ℕ → Bool
is_leading_digit c = nat_le 49 c && nat_le c 57

-- the number that a text of one to three digits states, where the first of several is not 0
abbrev pub count_value : List ℕ → Option ℕ
count_value [] = None
count_value (a ∷ []) = if is_digit a then Some (a - 48) else None
count_value (a ∷ b ∷ []) =
    if is_leading_digit a && is_digit b then Some (10 * (a - 48) + (b - 48)) else None
count_value (a ∷ b ∷ c ∷ []) =
    if is_leading_digit a
    && (is_digit b && is_digit c) then Some (100 * (a - 48) + 10 * (b - 48) + (c - 48)) else
    None
count_value (a ∷ b ∷ c ∷ d ∷ more) = None

-- the text states these six counts
pub record IsPositionText (text counts : List ℕ) : Type 0 where
  pub six : length counts ≡ 6
  pub each : map count_value (slice_split (λ c. c == 44) text) ≡ map (λ c. Some c) counts
