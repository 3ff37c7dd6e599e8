-- How a table is filled, a point at a time and a row at a time.
use Rattle.std.proofs.Common.{◌≡◌, ◌≢◌, ℕ, zero, suc, ◌+◌, ◌-◌, ◌^◌, ◌<◌, ◌≤◌, cond, if◌then◌else◌, nat_lt, List}
use Rattle.std.proofs.Common.{length, slice_index, slice_index_or, slice_set, replicate, refl, sym, ◌∙◌, ap, subst, inl}
use Rattle.std.proofs.Common.{inr, add-one, get_or-set_other, get_or-set_same, arith, ◌⊎◌}
use Rattle.std.proofs.lemmas.Bool.{lt-ltb, le-ltb, ne_eqb, cases_lt, cases_order}
use Rattle.std.proofs.lemmas.List.{length-set, get_or-replicate}
use Rattle.ranking.specs.declared.row.Row.{Row}
use Rattle.ranking.specs.Tables.{ways, used}
use Rattle.ranking.specs.Tables.{IsRow, IsPointTable}
use Rattle.ranking.proofs.Cells.{zeros}
use Rattle.ranking.proofs.TableCounts.{ways-most, ways-end, ways-step, used-none, used-step}

-- the row of the lists on no points
row_end : (k : ℕ) → IsRow (ways 7 k) (record { cells = slice_set (replicate 91 0) 0 1 })
row_end k = record { each = λ m h. at m } where
  at : (m : ℕ) → slice_index (slice_set (replicate 91 0) 0 1) m ≡ ways 7 k m
  at zero = sym (ways-end k 0)
  at (suc m) =
      zeros 90 m
      ∙ sym
      (ways-end k (suc m) ∙ ap (λ b. cond {A = ℕ} b 1 0) (ne_eqb 0 (suc m) (λ e. omega arith)))

-- the table of the lists on no points
pub table_end : IsPointTable (ways 7)
    (record { rows = replicate 16 (record { cells = slice_set (replicate 91 0) 0 1 }) })
table_end = record {
  long = refl;
  each =
      λ k d h.
      subst (IsRow (ways 7 k))
      (sym (get_or-replicate 16 k (record { cells = slice_set (replicate 91 0) 0 1 }) d h))
      (row_end k);
}

-- the rows below j are those from point p on, the others
-- those above it, and what was added is kept
pub record IsPartway (p j : ℕ) (rows added : List Row) : Type 0 where
  pub long : length rows ≡ 16
  pub long_added : length added ≡ 16
  pub done : (k : ℕ) (d : Row) → k < j → IsRow (ways p k) (slice_index_or rows k d)
  pub rest : (k : ℕ) (d : Row) → j ≤ k → k < 16 → IsRow (ways (p + 1) k) (slice_index_or rows k d)
  pub counted : (k : ℕ) (d : Row) → k < j → IsRow (used p k) (slice_index_or added k d)

-- the row of no checkers is right from the start
pub partway_start : (p : ℕ) (rows added : List Row) → p ≤ 6 → length rows ≡ 16 →
    length added ≡ 16 →
    ((k : ℕ) (d : Row) → k < 16 → IsRow (ways (p + 1) k) (slice_index_or rows k d)) →
    IsPartway p 1 rows (slice_set added 0 (record { cells = replicate 91 0 }))
partway_start p rows added h l few above = record {
  long = l;
  long_added = length-set {A = Row} added 0 (record { cells = replicate 91 0 }) ∙ few;
  done = λ k d low. first k d (omega arith);
  rest = λ k d low high. above k d high;
  counted = λ k d low. none k d (omega arith);
} where
  first : (k : ℕ) (d : Row) → k ≡ 0 → IsRow (ways p k) (slice_index_or rows k d)
  first k d e = record { each = λ m low. (above k d (omega arith)).each m low ∙ same k m e } where
    same : (k m : ℕ) → k ≡ 0 → ways (p + 1) k m ≡ ways p k m
    same k m e = rw (e, add-one) (omega (arith, ways-step p 0 m h (omega arith), used-none p m h))

  none : (k : ℕ) (d : Row) → k ≡ 0 →
      IsRow (used p k)
      (slice_index_or (slice_set added 0 (record { cells = replicate 91 0 })) k d)
  none k d e =
      let empty : Row = record { cells = replicate 91 0 } in
      rw (e, get_or-set_same {A = Row} added 0 empty d (omega (arith, few)))
      (record { each = λ m low. zeros 91 m ∙ sym (used-none p m h) })

-- the row that is added
pub added_row : (p k : ℕ) (below row : Row) → p ≤ 6 → k < 15 → IsRow (ways p k) below →
    ((m : ℕ) → m < 91 →
    slice_index row.cells m
    ≡ (if nat_lt m p then 0 else slice_index below.cells (m - p))) →
    IsRow (used p (suc k)) row
added_row p k below row h l b s =
    record { each = λ m low. s m low ∙ by_room m low (cases_lt m p) ∙ sym (used-step p k m h l) }
  where
    by_room : (m : ℕ) → m < 91 → (m < p) ⊎ (p ≤ m) →
        (if nat_lt m p then 0 else slice_index below.cells (m - p))
        ≡ (if nat_lt m p then 0 else ways p k (m - p))
    by_room m low (inl small) = rw (lt-ltb m p small) refl
    by_room m low (inr room) = rw (le-ltb m p room) (b.each (m - p) (omega arith))

-- the row that is added at j
pub added_at : (p j : ℕ) (rows added : List Row) (d row : Row) → p ≤ 6 → 1 ≤ j → j < 16 →
    IsPartway p j rows added →
    ((m : ℕ) → m < 91 →
    slice_index row.cells m
    ≡ (if nat_lt m p then 0 else slice_index (slice_index_or rows (j - 1) d).cells
    (m - p))) →
    IsRow (used p j) row
added_at p j rows added d row h g l w s =
    let e : suc (j - 1) ≡ j = omega arith in
    subst (λ i. IsRow (used p i) row) e
    (added_row p (j - 1) (slice_index_or rows (j - 1) d) row h (omega arith)
    (w.done (j - 1) d (omega arith)) s)

-- the two rows that are added up stay in range
pub sum_fits : (p k m : ℕ) (row more : Row) → 1 ≤ p → p ≤ 6 → k ≤ 15 → IsRow (ways (p + 1) k) row →
    IsRow (used p k) more → m < 91 →
    slice_index row.cells m + slice_index more.cells m < 2 ^ 16
sum_fits p k m row more g h l a b low =
    let e : p + 1 ≡ suc p = add-one p in
    omega (
      arith,
      a.each m low,
      b.each m low,
      ap (λ q. ways q k m) e,
      ways-step p k m h l,
      ways-most p k m g l,
    )

-- one row more
pub partway_more : (p j : ℕ) (rows added : List Row) (d row more : Row) → p ≤ 6 → j < 16 →
    IsPartway p j rows added → IsRow (used p j) more →
    ((m : ℕ) → m < 91 →
    slice_index row.cells m
    ≡ slice_index (slice_index_or rows j d).cells m + slice_index more.cells m) →
    IsPartway p (j + 1) (slice_set rows j row) (slice_set added j more)
partway_more p j rows added d row more h l w u s = record {
  long = length-set rows j row ∙ w.long;
  long_added = length-set added j more ∙ w.long_added;
  done = λ k d low. in_done k d low (cases_order k j);
  rest =
      λ k d low high.
      let ne : k ≢ j = omega arith in
      subst (IsRow (ways (p + 1) k)) (sym (get_or-set_other rows j k row d ne))
      (w.rest k d (omega arith) high);
  counted = λ k d low. in_counted k d low (cases_order k j);
} where
  new_row : IsRow (ways p j) row
  new_row = record {
    each =
        λ m low.
        let e : p + 1 ≡ suc p = add-one p in
        omega (
          arith,
          s m low,
          (w.rest j d (omega arith) l).each m low,
          u.each m low,
          ap (λ q. ways q j m) e,
          ways-step p j m h (omega arith),
        );
  }

  in_done : (k : ℕ) (d : Row) → k < j + 1 → (k ≡ j) ⊎ ((k < j) ⊎ (j < k)) →
      IsRow (ways p k) (slice_index_or (slice_set rows j row) k d)
  in_done k d low (inl e) =
      rw e
      (let lt : j < length rows = omega (arith, w.long) in
      subst (IsRow (ways p j)) (sym (get_or-set_same rows j row d lt)) new_row)
  in_done k d low (inr (inl less)) =
      let ne : k ≢ j = omega arith in
      subst (IsRow (ways p k)) (sym (get_or-set_other rows j k row d ne)) (w.done k d less)
  in_done k d low (inr (inr more)) = absurd (omega arith)

  in_counted : (k : ℕ) (d : Row) → k < j + 1 → (k ≡ j) ⊎ ((k < j) ⊎ (j < k)) →
      IsRow (used p k) (slice_index_or (slice_set added j more) k d)
  in_counted k d low (inl e) =
      rw e
      (let lt : j < length added = omega (arith, w.long_added) in
      subst (IsRow (used p j)) (sym (get_or-set_same added j more d lt)) u)
  in_counted k d low (inr (inl less)) =
      let ne : k ≢ j = omega arith in
      subst (IsRow (used p k)) (sym (get_or-set_other added j k more d ne)) (w.counted k d less)
  in_counted k d low (inr (inr high)) = absurd (omega arith)
