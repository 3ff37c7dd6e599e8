-- What is known of the positions before the next rank: nothing at first, one position more after
-- each, and by means that agree on lower ranks the same.
use Rattle.std.proofs.Common.{◌≡◌, ◌≢◌, ⊎_elim, ℕ, suc, ◌+◌, ◌-◌, ◌%◌, ◌<◌, List, [], ◌∷◌, length, replicate, get_or}
use Rattle.std.proofs.Common.{set, sym, ap, subst, ◌∙◌, arith, get_or-set_other, get_or-set_same, slice_index}
use Rattle.std.proofs.Common.{slice_index_or}
use Rattle.std.proofs.lemmas.Bool.{cases_lt}
use Rattle.std.proofs.lemmas.List.{length-replicate, length-set}
use Rattle.std.proofs.Math.Nat.{mod-eq_of_lt}
use Rattle.race_model.specs.Prelude.{Board, IsPosition, pips, Die, one, two, three, four, five, six, number, rank}
use Rattle.race_model.specs.Prelude.{count_to}
use Rattle.race_model.proofs.Plays.MostPlays.{get_or-zeros}
use Rattle.race_model.proofs.Plays.Results.{run_to_position}
use Rattle.race_model.proofs.Plays.Spent.{run_takes}
use Rattle.race_model.proofs.Ranks.RankOrder.{rank_apart, rank_bound, count_to-rises}
use Rattle.ranking.proofs.LevelCounts.{seven_levels}
use Rattle.race_model.proofs.Ranks.BestPlays.{run_lower, run-agree_reached}
use Rattle.least_plays.specs.Known.{HasRows, row_in, number_in, IsBestAfter, Knows}
use Rattle.least_plays.specs.declared.room.Row.{Row}
use Rattle.least_plays.specs.declared.room.LeastPlays.{LeastPlays}

-- ranks that are less than 11,452 apart have rows of their own, where there are rows for them
rows_apart : (rows r n : ℕ) → HasRows rows n → r < n → n < r + 11452 → r % rows ≢ n % rows
rows_apart rows r n has below near e = ⊎_elim
    (λ few.
    let first : r % rows ≡ r = mod-eq_of_lt (omega arith) in
    let second : n % rows ≡ n = mod-eq_of_lt few in
    omega arith)
    (λ usual.
    let same : r % 11452 ≡ n % 11452 = subst (λ m. r % m ≡ n % m) usual e in
    omega arith)
    has.own

-- where there are rows for them, there is at least one
pub has_some : (rows r : ℕ) → HasRows rows r → 0 < rows
has_some rows r has = ⊎_elim (λ few. omega arith) (λ usual. omega arith) has.own

-- what a row keeps
kept_in : Row → Die → ℕ → ℕ
kept_in row d n = slice_index (slice_index_or row.after (number d - 1) []) n

-- a row that is written leaves the others
number_in-other : (rows : List Row) (place r : ℕ) (row : Row) (d : Die) (n : ℕ) →
    r % length rows ≢ place →
    number_in (set rows place row) r d (suc n) ≡ number_in rows r d (suc n)
unfolding number_in row_in kept_in
number_in-other rows place r row d n apart =
    ap (λ len. kept_in (get_or (set rows place row) (r % len) (record { after = [] })) d n)
    (length-set {A = Row} rows place row)
    ∙ ap (λ row. kept_in row d n)
    (get_or-set_other {A = Row} rows place (r % length rows) row (record { after = [] }) apart)

-- a row that is written has what was written
number_in-same : (rows : List Row) (place r : ℕ) (row : Row) (d : Die) (n : ℕ) →
    r % length rows ≡ place → place < length rows →
    number_in (set rows place row) r d (suc n)
    ≡ slice_index (slice_index_or row.after (number d - 1) []) n
unfolding number_in row_in kept_in
number_in-same rows place r row d n same inside =
    ap (λ q. kept_in (get_or (set rows place row) q (record { after = [] })) d n)
    (ap (λ len. r % len) (length-set {A = Row} rows place row) ∙ same)
    ∙ ap (λ row. kept_in row d n)
    (get_or-set_same {A = Row} rows place row (record { after = [] }) inside)

-- the position of the next rank is known once its row is written
pub knows_more : {size : ℕ} (mean : ℕ → ℕ) (plays : LeastPlays size) (x : Board) (place : ℕ)
    (row : Row) →
    IsPosition x → length plays.rows ≡ size → HasRows size (rank x) →
    place ≡ rank x % size → place < size → Knows mean plays (rank x) →
    ((d : Die) (n : ℕ) → n < 3 →
    IsBestAfter mean x (d ∷ replicate n d)
    (slice_index (slice_index_or row.after (number d - 1) []) n)) →
    Knows mean (record plays { rows = set plays.rows place row }) (rank x + 1)
knows_more {size} mean plays x place row at long has placed inside known best =
    record { each = each }
  where
    each : (y : Board) → IsPosition y → rank y < rank x + 1 → rank x + 1 < count_to (pips y + 6) →
        (d : Die) (n : ℕ) → n < 3 →
        IsBestAfter mean y (d ∷ replicate n d)
        (number_in (set plays.rows place row) (rank y) d (suc n))
    each y there lower near d n few = ⊎_elim
        (λ below.
        let near_here = (rank_bound x (pips y + 6) at).0 (omega arith) in
        let apart : rank y % length plays.rows ≢ place =
        λ e. rows_apart size (rank y) (rank x) has below (seven_levels x y at there near_here)
        (ap (λ len. rank y % len) (sym long) ∙ (e ∙ placed)) in
        subst (λ r. IsBestAfter mean y (d ∷ replicate n d) r)
        (sym (number_in-other plays.rows place (rank y) row d n apart))
        (known.each y there below (omega arith) d n few))
        (λ here.
        let e : rank x ≡ rank y = omega arith in
        let same : rank y % length plays.rows ≡ place =
        ap (λ len. rank y % len) long ∙ (ap (λ r. r % size) (sym e) ∙ sym placed) in
        subst (λ r. IsBestAfter mean y (d ∷ replicate n d) r)
        (sym (number_in-same plays.rows place (rank y) row d n same (omega (arith, inside, long))))
        (subst
        (λ z. IsBestAfter mean z (d ∷ replicate n d)
        (slice_index (slice_index_or row.after (number d - 1) []) n))
        (rank_apart x y at there e) (best d n few)))
        (cases_lt (rank y) (rank x))

-- the same is known by means that agree on the ranks of positions below the last one, from which
-- the next one is at most 24 pips away
pub knows_agree_near : {size : ℕ} (mean other : ℕ → ℕ) (plays : LeastPlays size) (next : ℕ) →
    ((z : Board) → IsPosition z → rank z + 1 < next → next < count_to (pips z + 24) →
    mean (rank z) ≡ other (rank z)) →
    Knows mean plays next → Knows other plays next
knows_agree_near mean other plays next agree known = record {
  each = λ y at lower near d n few.
      run-agree_reached mean other d (replicate n d) y (number_in plays.rows (rank y) d (suc n))
      (λ unfinished z run.
      let below = run_lower d (replicate n d) y z at unfinished run in
      let taken = run_takes (d ∷ replicate n d) y z run in
      let count = length-replicate n d in
      let above = count_to-rises (pips y + 6) (pips z + 24) (omega arith) in
      agree z (run_to_position (d ∷ replicate n d) y z at run) (omega arith) (omega arith))
      (known.each y at lower near d n few);
}

-- the same is known by means that agree below the last rank
pub knows_agree : {size : ℕ} (mean other : ℕ → ℕ) (plays : LeastPlays size) (next : ℕ) →
    ((q : ℕ) → q + 1 < next → mean q ≡ other q) → Knows mean plays next → Knows other plays next
knows_agree mean other plays next agree =
    knows_agree_near mean other plays next (λ z at lower near. agree (rank z) lower)

-- the row of the finished position has rank 0 everywhere
pub finished_row : (d : Die) (n : ℕ) →
    slice_index (slice_index_or (replicate 6 (replicate 3 0)) (number d - 1) []) n ≡ 0
finished_row one n = get_or-zeros 3 n
finished_row two n = get_or-zeros 3 n
finished_row three n = get_or-zeros 3 n
finished_row four n = get_or-zeros 3 n
finished_row five n = get_or-zeros 3 n
finished_row six n = get_or-zeros 3 n
