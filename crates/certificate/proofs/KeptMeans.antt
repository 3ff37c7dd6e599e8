-- The means that are kept, with one more.
use Rattle.std.proofs.Common.{◌≡◌, ◌≢◌, ⊎_elim, ℕ, ◌+◌, ◌-◌, ◌<◌, ◌≤◌, List, sym, ap, ◌∙◌, arith}
use Rattle.std.proofs.lemmas.Bool.{cases_lt, lt-ltb, le-ltb}
use Rattle.race_model.specs.Prelude.{mean_at}
use Rattle.certificate.specs.KeptMeans.{kept_place, kept_mean}

-- the place of a rank below the room
kept_place-low : (room r : ℕ) → r < room → kept_place room r ≡ r
unfolding kept_place
kept_place-low room r low = rw (lt-ltb r room low)

-- the place of a rank that is not below the room
kept_place-high : (room r : ℕ) → room ≤ r → kept_place room r ≡ r - room
unfolding kept_place
kept_place-high room r high = rw (le-ltb r room high)

-- ranks that are less than the room apart have places of their own
pub places_apart : (room r n : ℕ) → r < n → n < r + room → kept_place room r ≢ kept_place room n
places_apart room r n below near e = ⊎_elim
    (λ low. ⊎_elim
    (λ both. omega (arith, kept_place-low room r low, kept_place-low room n both))
    (λ past. omega (arith, kept_place-low room r low, kept_place-high room n past))
    (cases_lt n room))
    (λ high.
    let past : room ≤ n = omega arith in
    omega (arith, kept_place-high room r high, kept_place-high room n past))
    (cases_lt r room)

-- where they were those of the file, they still are
pub accepted-mean_more : (f before after : List ℕ) (room rank : ℕ)
    → kept_mean room after rank ≡ mean_at f rank
    → ((r : ℕ) → kept_place room r ≢ kept_place room rank →
    kept_mean room after r ≡ kept_mean room before r)
    → ((r : ℕ) → r < rank → rank ≤ r + room → kept_mean room before r ≡ mean_at f r)
    → (r : ℕ) → r < rank + 1 → rank + 1 ≤ r + room → kept_mean room after r ≡ mean_at f r
accepted-mean_more f before after room rank here others are r lt near = ⊎_elim
    (λ less. others r (places_apart room r rank less (omega arith)) ∙ are r less (omega arith))
    (λ more.
    let same : r ≡ rank = omega arith in
    ap (kept_mean room after) same ∙ (here ∙ ap (mean_at f) (sym same)))
    (cases_lt r rank)
