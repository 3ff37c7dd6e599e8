-- Both players' checkers, each on the points 1 to 24 as that player counts them and then on the
-- bar, and when they are a race in the home boards. Source: the rules of backgammon.
use Rattle.std.specs.Prelude.{◌≡◌, ℕ, ◌-◌, ◌<◌, ◌≤◌, List, slice_index, slice_range, sum}
use Rattle.notation.specs.declared.told.NoRace.{NoRace}
use Rattle.notation.specs.declared.told.NoRace.TheVariants.{BadText, TooMany, SamePoint, OnBar, Outside}
use Rattle.notation.specs.declared.told.NoRace.TheVariants.{Contact, OtherOutside}
use Rattle.notation.specs.declared.told.Side.TheVariants.{Mine, Theirs}

-- the checkers on the points 1 to 6
abbrev pub home : List ℕ → List ℕ
home side = slice_range side 0 6

-- a player has a checker on a point
abbrev pub Stands : List ℕ → ℕ → Type 0
Stands side point = (1 ≤ point) × (point ≤ 24) × (0 < slice_index side (point - 1))

-- no checker of a player is farther from being borne off
abbrev pub IsLast : List ℕ → ℕ → Type 0
IsLast side point = Stands side point × ((other : ℕ) → Stands side other → other ≤ point)

-- all are on the points 1 to 6 or on the bar
abbrev pub IsHome : List ℕ → Type 0
IsHome side = (point : ℕ) → Stands side point → point ≤ 6

-- both have a checker on a point of the first player; the other one counts from the other end
abbrev pub Share : List ℕ → List ℕ → ℕ → Type 0
Share mine theirs point = Stands mine point × Stands theirs (25 - point)

-- neither has more than 15 checkers
abbrev pub AreFew : List ℕ → List ℕ → Type 0
AreFew mine theirs = (sum mine ≤ 15) × (sum theirs ≤ 15)

-- also no point has checkers of both
abbrev pub AreApart : List ℕ → List ℕ → Type 0
AreApart mine theirs = AreFew mine theirs × ((point : ℕ) → ¬ Share mine theirs point)

-- also no bar has one
abbrev pub AreOnBoard : List ℕ → List ℕ → Type 0
AreOnBoard mine theirs =
    AreApart mine theirs × (slice_index mine 24 ≡ 0) × (slice_index theirs 24 ≡ 0)

-- also the player on roll has all at home
abbrev pub AreMineHome : List ℕ → List ℕ → Type 0
AreMineHome mine theirs = AreOnBoard mine theirs × IsHome mine

-- also none of these is behind one of the other player's
abbrev pub ArePast : List ℕ → List ℕ → Type 0
ArePast mine theirs = AreMineHome mine theirs
    × ((point other : ℕ) → Stands mine point → Stands theirs (25 - other) → point ≤ other)

-- also that one has all at home: what holds of a race
abbrev pub IsSound : List ℕ → List ℕ → Type 0
IsSound mine theirs = ArePast mine theirs × IsHome theirs

-- of these, in their order, the first that doesn't hold, and where
abbrev pub IsFault : List ℕ → List ℕ → NoRace → Type 0
IsFault mine theirs BadText = ⊥
IsFault mine theirs (TooMany Mine) = 15 < sum mine
IsFault mine theirs (TooMany Theirs) = (sum mine ≤ 15) × (15 < sum theirs)
IsFault mine theirs (SamePoint point) = AreFew mine theirs × Share mine theirs point
    × ((other : ℕ) → Share mine theirs other → point ≤ other)
IsFault mine theirs (OnBar Mine) = AreApart mine theirs × (0 < slice_index mine 24)
IsFault mine theirs (OnBar Theirs) =
    AreApart mine theirs × (slice_index mine 24 ≡ 0) × (0 < slice_index theirs 24)
IsFault mine theirs (Outside point) = AreOnBoard mine theirs × IsLast mine point × (6 < point)
IsFault mine theirs (Contact point) = AreMineHome mine theirs × IsLast theirs (25 - point)
    × ((other : ℕ) × Stands mine other × (point < other))
IsFault mine theirs (OtherOutside point) = ArePast mine theirs × IsLast theirs point × (6 < point)
