-- The members of a list, and a list that is filled in order.
use Rattle.std.proofs.Common.{◌≡◌, ◌≢◌, ℕ, ◌+◌, ◌<◌, List, length, get_or, set, All, Any, Contains}
use Rattle.std.proofs.Common.{subst, arith, get_or-set_other, get_or-set_same, below_more}
use Rattle.std.proofs.lemmas.List.{get_or_default}

-- what holds of each member holds of all
pub all_of_members : {X : Type 0} (P : X → Type 0) (xs : List X) →
    ((y : X) → Contains xs y → P y) → All P xs
all_of_members P xs each =
    λ k d lt. each (get_or xs k d) (k, lt, get_or_default xs k (get_or xs k d) d lt)

-- what holds of all holds of a member
pub member_of_all : {X : Type 0} (P : X → Type 0) (xs : List X) (y : X) → All P xs →
    Contains xs y → P y
member_of_all P xs y all is = subst P is.2 (all is.0 y is.1)

-- what holds of some holds of a member
pub some_member : {X : Type 0} (P : X → Type 0) (xs : List X) → Any P xs →
    (y : X) × Contains xs y × P y
some_member P xs some = (some.1, (some.0, some.2, some.3), some.4)

-- one element more of a list that is filled in order
pub set_next : {X : Type 0} (P : ℕ → X → Type 0) (xs : List X) (i n : ℕ) (y d : X) → n ≡ i →
    i < length xs → ((j : ℕ) → j < i → P j (get_or xs j d)) → P i y → (j : ℕ) → j < i + 1 →
    P j (get_or (set xs n y) j d)
set_next P xs i n y d same lt before here j below =
    below_more (λ j. P j (get_or (set xs n y) j d)) i
    (λ k less. let other : k ≢ n = omega arith in rw get_or-set_other (before k less))
    (rw (← same) (let fits : n < length xs = omega arith in rw get_or-set_same (rw same here)))
    j below
