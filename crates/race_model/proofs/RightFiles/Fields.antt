-- Two lists of bytes that state the same numbers, one behind the other, are the same.
use Rattle.std.proofs.Common.{◌≡◌, ◌⊎◌, ⊎_elim, ℕ, zero, suc, ◌+◌, ◌*◌, ◌<◌, ◌≤◌, List, ◌++◌, length}
use Rattle.std.proofs.Common.{get_or, take, refl, ap, ap₂, sym, subst, ◌∙◌, arith, ext_get_or}
use Rattle.std.specs.Int.{w16, w64, w128, from_be_bytes}
use Rattle.std.proofs.Math.Seq.{take-add}
use Rattle.std.proofs.lemmas.List.{take_all}
use Rattle.race_model.specs.Prelude.{Board, IsPosition, pips, rank, at_rank, count_to, Layout, IsBytes, IsFileBy}
use Rattle.race_model.specs.Prelude.{bytes_at, bound_of, place_by, header_by}
use Rattle.race_model.proofs.FirstFaults.HeaderFacts.{small_bytes}
use Rattle.race_model.proofs.FirstFaults.Questions.{within_bound}
use Rattle.race_model.proofs.Ranks.RankOrder.{rank_bound}
use Rattle.race_model.proofs.Ranks.PositionTotals.{rank-at_rank, count_to-most}
use Rattle.race_model.proofs.RightFiles.Places.{length-bytes_at, length-record_by, place_by-first, place_by-next}

-- the number of digits to the base 256, the highest first
abbrev horner : (ℕ → ℕ) → ℕ → ℕ
horner x zero = x 0
horner x (suc n) = 256 * horner x n + x (suc n)

-- equal numbers have equal digits
same_digits : (x y : ℕ → ℕ) → ((i : ℕ) → x i < 256) → ((i : ℕ) → y i < 256) → (n : ℕ) →
    horner x n ≡ horner y n → (i : ℕ) → i ≤ n → x i ≡ y i
same_digits x y hx hy zero e i le = subst (λ k. x k ≡ y k) (none i le) e
  where
    none : (i : ℕ) → i ≤ 0 → 0 ≡ i
    none i le = omega arith
same_digits x y hx hy (suc n) e i le = ⊎_elim
    (λ less. same_digits x y hx hy n (omega (arith, e, hx (suc n), hy (suc n))) i less)
    (λ last. subst (λ k. x k ≡ y k) (sym last) (omega (arith, e, hx (suc n), hy (suc n))))
    (split i n le)
  where
    split : (i n : ℕ) → i ≤ suc n → (i ≤ n) ⊎ (i ≡ suc n)
    split i n le = grind arith

-- what the first bytes of a list make: two of them, eight and sixteen
made_by : List ℕ → ℕ → ℕ
made_by xs n = horner (λ i. get_or xs i 0) n

by_two : (xs : List ℕ) → from_be_bytes w16 xs ≡ made_by xs 1
unfolding made_by
by_two xs = omega arith

by_eight : (xs : List ℕ) → from_be_bytes w64 xs ≡ made_by xs 7
unfolding made_by
by_eight xs = omega arith

by_sixteen : (xs : List ℕ) → from_be_bytes w128 xs ≡ made_by xs 15
unfolding made_by
by_sixteen xs = omega arith

-- two lists of so many bytes
pub record AreBytes (size : ℕ) (f g : List ℕ) : Type 0 where
  pub long_f : length f ≡ size
  pub long_g : length g ≡ size
  pub small_f : IsBytes f
  pub small_g : IsBytes g

-- they are the same to a place
abbrev pub AreSameTo : List ℕ → List ℕ → ℕ → Type 0
AreSameTo f g n = take n f ≡ take n g

-- two files that are the same to a place are so further, with the same bytes there
further : (f g : List ℕ) (p n : ℕ) → AreSameTo f g p → bytes_at f p n ≡ bytes_at g p n →
    AreSameTo f g (p + n)
further f g p n same e =
    take-add p n f ∙ ap₂ (λ (xs ys : List ℕ). xs ++ ys) same e ∙ sym (take-add p n g)

-- two files that are the same to their end are one
same_whole : (n : ℕ) (f g : List ℕ) → length f ≡ n → length g ≡ n → AreSameTo f g n → f ≡ g
same_whole n f g long_f long_g same =
    sym (take_all n f (omega (arith, long_f))) ∙ same ∙ take_all n g (omega (arith, long_g))

module _ {size : ℕ} {f g : List ℕ} (two : AreBytes size f g) where
  -- the same number there
  number : {q : ℕ} (n p : ℕ) → p + suc n ≡ q → q ≤ size →
      made_by (bytes_at f p (suc n)) n ≡ made_by (bytes_at g p (suc n)) n → AreSameTo f g p →
      AreSameTo f g q
  unfolding made_by
  number n p end within e same =
      let xs = bytes_at f p (suc n) in
      let ys = bytes_at g p (suc n) in
      let long = length-bytes_at f p (suc n) (omega (arith, end, within, two.long_f)) in
      let also = length-bytes_at g p (suc n) (omega (arith, end, within, two.long_g)) in
      subst (AreSameTo f g) end
      (further f g p (suc n) same
      (ext_get_or 0 xs ys (long ∙ sym also)
      (λ i lt.
      same_digits (λ k. get_or xs k 0) (λ k. get_or ys k 0)
      (small_bytes f p (suc n) two.small_f) (small_bytes g p (suc n) two.small_g) n e i
      (omega (arith, lt, long)))))

  -- the same number of two bytes, of eight, and of sixteen
  short : {q : ℕ} (p : ℕ) → p + 2 ≡ q → q ≤ size →
      from_be_bytes w16 (bytes_at f p 2) ≡ from_be_bytes w16 (bytes_at g p 2) →
      AreSameTo f g p → AreSameTo f g q
  short p end within e =
      number 1 p end within (sym (by_two (bytes_at f p 2)) ∙ e ∙ by_two (bytes_at g p 2))

  pub word : {q : ℕ} (p : ℕ) → p + 8 ≡ q → q ≤ size →
      from_be_bytes w64 (bytes_at f p 8) ≡ from_be_bytes w64 (bytes_at g p 8) →
      AreSameTo f g p → AreSameTo f g q
  word p end within e =
      number 7 p end within (sym (by_eight (bytes_at f p 8)) ∙ e ∙ by_eight (bytes_at g p 8))

  pub wide : {q : ℕ} (p : ℕ) → p + 16 ≡ q → q ≤ size →
      from_be_bytes w128 (bytes_at f p 16) ≡ from_be_bytes w128 (bytes_at g p 16) →
      AreSameTo f g p → AreSameTo f g q
  wide p end within e =
      number 15 p end within
      (sym (by_sixteen (bytes_at f p 16)) ∙ e ∙ by_sixteen (bytes_at g p 16))

  -- the same bytes of as many numbers of two bytes
  pub shorts : (p n : ℕ) {q : ℕ} → p + 2 * n ≡ q → q ≤ size →
      ((i : ℕ) → i < n →
      from_be_bytes w16 (bytes_at f (p + 2 * i) 2) ≡ from_be_bytes w16 (bytes_at g (p + 2 * i) 2)) →
      AreSameTo f g p → AreSameTo f g q
  shorts p zero {q} end within each same =
      let start : p ≡ q = omega (arith, end) in subst (AreSameTo f g) start same
  shorts p (suc n) end within each same =
      short (p + 2 * n) (omega (arith, end)) within (each n (omega arith))
      (shorts p n refl (omega (arith, end, within)) (λ i less. each i (omega (arith, less))) same)

-- two files of bytes of one layout and of one bound, whose records have as many bytes as their pip
-- counts have
module _ (layout : Layout) (width : ℕ → ℕ) (places : layout.place ≡ place_by width) (f g : List ℕ)
    (small_f : IsBytes f) (small_g : IsBytes g) (file_f : IsFileBy layout f)
    (file_g : IsFileBy layout g) (bounds : bound_of f ≡ bound_of g) where
  abbrev count : ℕ
  count = count_to (bound_of f)

  abbrev record_of : List ℕ → ℕ → List ℕ
  record_of h r = bytes_at h (place_by width r) (width (pips (at_rank r)))

  -- are of one length
  long : (h : List ℕ) → IsFileBy layout h → bound_of f ≡ bound_of h →
      length h ≡ place_by width count
  long h file bound =
      file.whole ∙ ap₂ (λ (place : ℕ → ℕ) b. place (count_to b)) places (sym bound)

  -- their records are the same
  records_two : (r : ℕ) → r < count →
      AreBytes (width (pips (at_rank r))) (record_of f r) (record_of g r)
  records_two r under = record {
    long_f = length-record_by width f count r (long f file_f refl) under;
    long_g = length-record_by width g count r (long g file_g bounds) under;
    small_f = small_bytes f (place_by width r) (width (pips (at_rank r))) small_f;
    small_g = small_bytes g (place_by width r) (width (pips (at_rank r))) small_g;
  }

  -- they are one where the record of each position is the same
  pub same_records : ((x : Board) → IsPosition x → pips x ≤ bound_of f →
      AreBytes (width (pips (at_rank (rank x)))) (record_of f (rank x)) (record_of g (rank x)) →
      AreSameTo (record_of f (rank x)) (record_of g (rank x)) (width (pips (at_rank (rank x))))) →
      f ≡ g
  same_records each =
      same_whole (place_by width count) f g (long f file_f refl) (long g file_g bounds)
      (to count (omega arith))
    where
      one : (r : ℕ) → r < count → record_of f r ≡ record_of g r
      one r under =
          let here = within_bound (bound_of f) r under in
          let n = rank (at_rank r) in
          let both = records_two n ((rank_bound (at_rank r) (bound_of f) here.0).1 here.1) in
          subst (λ k. record_of f k ≡ record_of g k)
          (rank-at_rank r (omega (arith, under, count_to-most (bound_of f))))
          (same_whole (width (pips (at_rank n))) (record_of f n) (record_of g n) both.long_f
          both.long_g (each (at_rank r) here.0 here.1 both))

      to : (n : ℕ) → n ≤ count → AreSameTo f g (place_by width n)
      to zero le =
          subst (AreSameTo f g) (sym (place_by-first width))
          (file_f.headed ∙ ap (header_by layout) bounds ∙ sym file_g.headed)
      to (suc n) le =
          subst (AreSameTo f g) (sym (place_by-next width n))
          (further f g (place_by width n) (width (pips (at_rank n))) (to n (omega (arith, le)))
          (one n (omega (arith, le))))
