-- The rule of the most dice: as many of the numbers thrown must be used as is legally possible,
-- and where only one of two different numbers can be used, the greater one if it can be. Source:
-- the rules of backgammon.
use Rattle.std.specs.Prelude.{◌≡◌, ◌≢◌, ℕ, ◌≤◌, List, [], ◌∷◌, length, replicate}
use Rattle.race_model.specs.Positions.{Board}
use Rattle.race_model.specs.Dice.{Die, number, Throw}
use Rattle.race_model.specs.Plays.{Step}

-- a step for each die of a list, and y is what comes of them
abbrev pub Uses : Board → List Die → Board → Type 0
Uses x [] y = y ≡ x
Uses x (d ∷ dice) y = (z : Board) × (Step x d z × Uses z dice y)

-- the dice of a throw that a player may use: none, one, or
-- both in either order; of a double none to four
pub data IsOffered (v : Throw) (dice : List Die) : Type 0 where
  no_die : dice ≡ [] → IsOffered v dice
  first_alone : v.first ≢ v.second → dice ≡ v.first ∷ [] → IsOffered v dice
  second_alone : v.first ≢ v.second → dice ≡ v.second ∷ [] → IsOffered v dice
  both_in_order : v.first ≢ v.second → dice ≡ v.first ∷ v.second ∷ [] → IsOffered v dice
  both_in_reverse : v.first ≢ v.second → dice ≡ v.second ∷ v.first ∷ [] → IsOffered v dice
  of_double : (n : ℕ) → n ≤ 4 → v.first ≡ v.second → dice ≡ replicate n v.first → IsOffered v dice

-- the throw leads from x to y by as many dice as can be used
pub record MostDice (x : Board) (v : Throw) (y : Board) : Type 0 where
  pub used : List Die
  pub offered : IsOffered v used
  pub uses : Uses x used y
  pub most : (dice : List Die) (z : Board) → IsOffered v dice → Uses x dice z →
      length dice ≤ length used
  pub greater : (d e : Die) (z : Board) → used ≡ e ∷ [] → IsOffered v (d ∷ []) →
      Uses x (d ∷ []) z → number d ≤ number e
