-- The constants that say where the records of each pip count begin.
use Rattle.std.proofs.Common.{◌≡◌, ℕ, zero, suc, ◌+◌, ◌-◌, ◌*◌, ◌<◌, ◌≤◌, List, [], ◌∷◌, map, slice_index}
use Rattle.std.proofs.Common.{refl, sym, ap, ap₂, ◌∙◌, arith, add-one}
use Rattle.std.specs.List.{range_with_len}
use Rattle.std.proofs.lemmas.List.FromFn.{get_or-map-range_with_len}
use Rattle.race_model.specs.Prelude.{first_of, compact, record_length, place_by, record_place, board_length}
use Rattle.race_model.specs.Prelude.{board_place}
use Rattle.race_model.proofs.Ranks.RankOrder.{first_of-zero}
use Rattle.race_model.proofs.RightFiles.Places.{place_by-first, record_place-by, board_place-by}
use Rattle.ranking.specs.declared.firsts.TheConstants.{FIRSTS}
use Rattle.ranking.proofs.LevelCounts.{at_first}
use Rattle.db_layout.specs.declared.places.TheConstants.{STARTS, BOARD_STARTS}
use Rattle.db_layout.proofs.RecordPlaces.{place_beyond}

-- the records of p pips have size p bytes
module _ (size : ℕ → ℕ) where
  -- where the records of a pip count begin
  abbrev place : ℕ → ℕ
  place p = place_by size (first_of p)

  -- the same for n pip counts from p on, by sums over the counts f of fewer pips
  abbrev pub starts_from : (ℕ → ℕ) → ℕ → ℕ → ℕ → List ℕ
  starts_from f p start zero = []
  starts_from f p start (suc n) =
      start ∷ starts_from f (suc p) (start + (f (suc p) - f p) * size p) n

  -- where these sums are the counts of fewer pips, they give the places
  map-place : (f : ℕ → ℕ) (p n : ℕ) → ((m : ℕ) → m ≤ p + n → f m ≡ first_of m) →
      map place (range_with_len p n) ≡ starts_from f p (place p) n
  map-place f p zero counts = refl
  map-place f p (suc n) counts =
      rw (add-one p)
      (ap (λ xs. place p ∷ xs)
      (map-place f (suc p) n (λ m low. counts m (omega (arith, low)))
      ∙ ap (λ start. starts_from f (suc p) start n) next))
    where
      next : place (suc p) ≡ place p + (f (suc p) - f p) * size p
      next =
          ap place (sym (add-one p)) ∙ place_beyond size p
          ∙ ap (λ count. place p + count * size p)
          (ap₂ (λ a b. a - b) (ap first_of (add-one p) ∙ sym (counts (suc p) (omega arith)))
          (sym (counts p (omega arith))))

  -- each of a table of these sums is where the records of a pip count begin
  pub at_place : (table : List ℕ) (n : ℕ) → n < 92 →
      table ≡ starts_from (slice_index FIRSTS) 0 32 n → (p : ℕ) → p < n →
      slice_index table p ≡ place_by size (first_of p)
  at_place table n few sums p low =
      ap (λ xs. slice_index xs p) all
      ∙ get_or-map-range_with_len place 0 n p p 0 low (omega arith)
    where
      all : table ≡ map place (range_with_len 0 n)
      all =
          sums
          ∙ sym (map-place (slice_index FIRSTS) 0 n
          (λ m at_most. at_first m (omega (arith, at_most, few)))
          ∙ ap (λ start. starts_from (slice_index FIRSTS) 0 start n)
          (ap (place_by size) first_of-zero ∙ place_by-first size))

-- each number of the table for version 2 is where the records of a pip count begin
pub at_start : (p : ℕ) → p ≤ 58 → slice_index STARTS p ≡ record_place compact (first_of p)
at_start p low =
    at_place (record_length compact) STARTS 59 (omega arith) refl p (omega (arith, low))
    ∙ sym (record_place-by compact (first_of p))

-- each number of the table for board files is where the records of a pip count begin
pub at_board_start : (p : ℕ) → p ≤ 90 → slice_index BOARD_STARTS p ≡ board_place (first_of p)
at_board_start p low =
    at_place board_length BOARD_STARTS 91 (omega arith) refl p (omega (arith, low))
    ∙ sym (board_place-by (first_of p))
