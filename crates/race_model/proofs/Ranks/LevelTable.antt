-- How many positions have each pip count, by a table: point after point, and on each point a
-- checker more in each row, so that each sum is made once.
use Rattle.std.proofs.Common.{◌≡◌, ℕ, zero, suc, ◌+◌, ◌-◌, ◌<◌, ◌≤◌, List, [], ◌∷◌, length}
use Rattle.std.proofs.Common.{cond, ne_eqb, slice_index, sym, ◌∙◌, ap, subst, arith}
use Rattle.std.specs.Prelude.{⊤}
use Rattle.race_model.specs.Prelude.{first_of}
use Rattle.race_model.proofs.Ranks.RankCounts.{ways, ways-nil, ways-zero, ways-used, used, used-low, used-more}
use Rattle.race_model.proofs.Ranks.RankOrder.{count_to-step, first_of-suc, first_of-zero}

-- a list has the values of f at m, at m + 1, and so on, as far as it goes
abbrev pub IsRow : (ℕ → ℕ) → ℕ → List ℕ → Type 0
IsRow f m [] = ⊤
IsRow f m (x ∷ xs) = (x ≡ f m) × (IsRow f (suc m) xs)

-- each of them
pub row-each : (f : ℕ → ℕ) (m : ℕ) (xs : List ℕ) → IsRow f m xs → (i : ℕ) → i < length xs →
    slice_index xs i ≡ f (m + i)
row-each f m [] row i low = absurd (omega (arith, low))
row-each f m (x ∷ xs) row zero low = let e : m ≡ m + 0 = omega arith in row.0 ∙ ap f e
row-each f m (x ∷ xs) row (suc i) low =
    let e : suc m + i ≡ m + suc i = omega arith in
    row-each f (suc m) xs row.1 i (omega (arith, low)) ∙ ap f e

-- the same values
row-same : (f g : ℕ → ℕ) (s m : ℕ) (xs : List ℕ) → ((j : ℕ) → f j ≡ g (s + j)) → IsRow f m xs →
    IsRow g (s + m) xs
row-same f g s m [] same row = tt
row-same f g s m (x ∷ xs) same row =
    let e : s + suc m ≡ suc (s + m) = omega arith in (
      row.0 ∙ same m,
      subst (λ k. IsRow g k xs) e (row-same f g s (suc m) xs same row.1),
    )

-- p zeros in front of a list
abbrev moved : ℕ → List ℕ → List ℕ
moved zero xs = xs
moved (suc p) xs = 0 ∷ moved p xs

-- p zeros before a row are right where the values are zero
row-moved : (f : ℕ → ℕ) (m p : ℕ) (xs : List ℕ) → ((j : ℕ) → j < m + p → f j ≡ 0) →
    IsRow f (m + p) xs → IsRow f m (moved p xs)
row-moved f m zero xs none row =
    let e : m + 0 ≡ m = omega arith in subst (λ k. IsRow f k xs) e row
row-moved f m (suc p) xs none row =
    let e : m + suc p ≡ suc m + p = omega arith in (
      sym (none m (omega arith)),
      row-moved f (suc m) p xs (λ j low. none j (omega (arith, low)))
          (subst (λ k. IsRow f k xs) e row),
    )

-- the sums of two lists, as far as both go
abbrev sums : List ℕ → List ℕ → List ℕ
sums [] ys = []
sums (x ∷ xs) [] = []
sums (x ∷ xs) (y ∷ ys) = (x + y) ∷ sums xs ys

-- the sums of two rows are a row of the sums of their values
row-sums : (f g h : ℕ → ℕ) (m : ℕ) (xs ys : List ℕ) → ((j : ℕ) → f j + g j ≡ h j) →
    IsRow f m xs → IsRow g m ys → IsRow h m (sums xs ys)
row-sums f g h m [] ys each one other = tt
row-sums f g h m (x ∷ xs) [] each one other = tt
row-sums f g h m (x ∷ xs) (y ∷ ys) each one other = (
  omega (arith, each m, one.0, other.0),
  row-sums f g h (suc m) xs ys each one.1 other.1,
)

-- the rows of one point more, after the row of one checker fewer
abbrev rows_after : ℕ → List ℕ → List (List ℕ) → List (List ℕ)
rows_after p last [] = []
rows_after p last (row ∷ rows) =
    let next = sums row (moved p last) in next ∷ rows_after p next rows

-- all rows of one point more
abbrev rows_from : ℕ → List (List ℕ) → List (List ℕ)
rows_from p [] = []
rows_from p (row ∷ rows) = row ∷ rows_after p row rows

-- so many zeros
abbrev zeros : ℕ → List ℕ
zeros zero = []
zeros (suc n) = 0 ∷ zeros n

-- a row for each number of checkers, of lists of no counts
abbrev no_points : ℕ → List (List ℕ)
no_points zero = []
no_points (suc k) = (1 ∷ zeros 90) ∷ no_points k

-- a row for each number of checkers, of n counts, of the points from p on
abbrev table : ℕ → ℕ → List (List ℕ)
table zero p = no_points 16
table (suc n) p = rows_from p (table n (suc p))

-- the rows of a table are the counts of lists, from those of at most k checkers on
abbrev IsTable : ℕ → ℕ → ℕ → List (List ℕ) → Type 0
IsTable n p k [] = ⊤
IsTable n p k (row ∷ rows) = (k ≤ 15 → IsRow (ways n p k) 0 row) × (IsTable n p (suc k) rows)

-- no list of no counts has a pip
row-zeros : (p k m n : ℕ) → IsRow (ways 0 p k) (suc m) (zeros n)
row-zeros p k m zero = tt
row-zeros p k m (suc n) = (
  sym
      (ways-nil p k (suc m)
      ∙ ap (λ b. cond {A = ℕ} b 1 0) (ne_eqb 0 (suc m) (λ e. omega arith))),
  row-zeros p k (suc m) n,
)

-- so the first table is right
table-no_points : (p k n : ℕ) → IsTable 0 p k (no_points n)
table-no_points p k zero = tt
table-no_points p k (suc n) =
    ((λ few. (sym (ways-nil p k 0), row-zeros p k 0 90)), table-no_points p (suc k) n)

-- the rows of one point more are right after a right one
table-after : (n p k : ℕ) (last : List ℕ) (rows : List (List ℕ)) →
    (k ≤ 15 → IsRow (ways (suc n) p k) 0 last) → IsTable n (suc p) (suc k) rows →
    IsTable (suc n) p (suc k) (rows_after p last rows)
table-after n p k last [] before rest = tt
table-after n p k last (row ∷ rows) before rest =
    (next, table-after n p (suc k) (sums row (moved p last)) rows next rest.1) where
      -- with a checker on the first point the others have p pips fewer
      taken : k < 15 → IsRow (used n p (suc k)) 0 (moved p last)
      taken few =
          row-moved (used n p (suc k)) 0 p last
          (λ j low. used-low n p k j few (omega (arith, low)))
          (subst (λ s. IsRow (used n p (suc k)) s last) at_p
          (row-same (ways (suc n) p k) (used n p (suc k)) p 0 last one_less
          (before (omega (arith, few)))))
        where
          at_p : p + 0 ≡ 0 + p
          at_p = omega arith

          one_less : (j : ℕ) → ways (suc n) p k j ≡ used n p (suc k) (p + j)
          one_less j =
              let e : p + j - p ≡ j = omega arith in
              sym (used-more n p k (p + j) few (omega arith) ∙ ap (ways (suc n) p k) e)

      next : suc k ≤ 15 → IsRow (ways (suc n) p (suc k)) 0 (sums row (moved p last))
      next few =
          row-sums (ways n (suc p) (suc k)) (used n p (suc k)) (ways (suc n) p (suc k)) 0 row
          (moved p last) (λ j. sym (ways-used n p (suc k) j few)) (rest.0 few)
          (taken (omega (arith, few)))

-- all tables are right
table-from : (n p : ℕ) (rows : List (List ℕ)) → IsTable n (suc p) 0 rows →
    IsTable (suc n) p 0 (rows_from p rows)
table-from n p [] rest = tt
table-from n p (row ∷ rows) rest = (first, table-after n p 0 row rows first rest.1) where
  first : 0 ≤ 15 → IsRow (ways (suc n) p 0) 0 row
  first few =
      row-same (ways n (suc p) 0) (ways (suc n) p 0) 0 0 row same (rest.0 few)
    where
      same : (j : ℕ) → ways n (suc p) 0 j ≡ ways (suc n) p 0 (0 + j)
      same j = let e : j ≡ 0 + j = omega arith in sym (ways-zero n p j) ∙ ap (ways (suc n) p 0) e

-- so each table is right
table-all : (n p : ℕ) → IsTable n p 0 (table n p)
table-all zero p = table-no_points p 0 16
table-all (suc n) p = table-from n p (table n (suc p)) (table-all n (suc p))

-- the row of k more checkers
abbrev row_at : ℕ → List (List ℕ) → List ℕ
row_at k [] = []
row_at zero (row ∷ rows) = row
row_at (suc k) (row ∷ rows) = row_at k rows

-- each of the rows is that of its number of checkers
table-row : (n p k j : ℕ) (rows : List (List ℕ)) → IsTable n p j rows → j + k ≤ 15 →
    IsRow (ways n p (j + k)) 0 (row_at k rows)
table-row n p k j [] all few = tt
table-row n p zero j (row ∷ rows) all few =
    let e : j ≡ j + 0 = omega arith in
    subst (λ i. IsRow (ways n p i) 0 row) e (all.0 (omega (arith, few)))
table-row n p (suc k) j (row ∷ rows) all few =
    let e : suc j + k ≡ j + suc k = omega arith in
    subst (λ i. IsRow (ways n p i) 0 (row_at k rows)) e
    (table-row n p k (suc j) rows all.1 (omega (arith, few)))

-- how many positions have each pip count, from 0 to 90
unfoldable pub levels : List ℕ
levels = row_at 15 (table 6 1)

-- the computed numbers of positions of each pip count are the counts
pub row-levels : IsRow (ways 6 1 15) 0 levels
unfolding levels
row-levels = table-row 6 1 15 0 (table 6 1) (table-all 6 1) (omega arith)

-- the sums of a list up to each place
abbrev totals : ℕ → List ℕ → List ℕ
totals first [] = first ∷ []
totals first (x ∷ xs) = first ∷ totals (first + x) xs

-- where the first sum is that of the counts, the sums are the counts of fewer pips
row-totals : (m first : ℕ) (xs : List ℕ) → first ≡ first_of m → IsRow (ways 6 1 15) m xs →
    IsRow first_of m (totals first xs)
row-totals m first [] is row = (is, tt)
row-totals m first (x ∷ xs) is row = (
  is,
  row-totals (suc m) (first + x) xs (omega (arith, is, row.0, first_of-suc m, count_to-step m))
      row.1,
)

-- how many positions have fewer pips, from 0 to 91
unfoldable pub firsts : List ℕ
unfolding levels
firsts = totals 0 levels

-- the computed numbers of positions of fewer pips are the counts
pub row-firsts : IsRow first_of 0 firsts
unfolding levels firsts
row-firsts = row-totals 0 0 levels (sym first_of-zero) row-levels
