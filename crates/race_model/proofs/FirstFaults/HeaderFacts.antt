-- A file begins with a header exactly where all questions about its header are answered yes.
use Rattle.std.proofs.Common.{◌≡◌, ◌⊎◌, ⊎_elim, ℕ, ◌+◌, ◌^◌, ◌<◌, ◌≤◌, List, ◌++◌, length, get_or}
use Rattle.std.proofs.Common.{take, drop, refl, ap, sym, subst, ◌∙◌, arith}
use Rattle.std.proofs.Common.{length-take, take-take}
use Rattle.std.specs.Int.{w16, w32, from_be_bytes, to_be_bytes}
use Rattle.std.proofs.Math.Seq.{take-add}
use Rattle.std.proofs.lemmas.List.{drop-take, get_or-take, get_or-drop, get_or_past}
use Rattle.std.proofs.lemmas.Nat.{be_bytes_2, be_bytes_4, from_be_bytes-to_be_bytes_2, from_be_bytes-to_be_bytes_4}
use Rattle.race_model.specs.Prelude.{count_to, Version, full, compact, version_number, version_by, stated_length}
use Rattle.race_model.specs.Prelude.{Layout, IsFileBy, header_by, layout_of, bytes_at, version_of, bound_of, IsFile}
use Rattle.race_model.specs.Prelude.{board_place, board_length, board_layout, IsBoardFile, HeaderTest, long_enough}
use Rattle.race_model.specs.Prelude.{magic, version, bound, record_bytes, reserved, exact_length, HeaderHoldsBy}
use Rattle.race_model.specs.Prelude.{IsHeader, IsFirstHeaderFault, IsBoardHeader}
use Rattle.race_model.specs.Headers.{count}
use Rattle.race_model.proofs.Ranks.PositionTotals.{count_to-most}
use Rattle.race_model.proofs.RightFiles.Places.{header_before, length-bytes_at}
use Rattle.race_model.proofs.RightFiles.Places.{board_place-by, place_by-most}

-- bytes of the first 32 are bytes of the file
bytes_at-front : (f : List ℕ) (place n rest : ℕ) → place + (n + rest) ≡ 32 →
    bytes_at (take 32 f) place n ≡ bytes_at f place n
bytes_at-front f place n rest e =
    ap (λ k. take n (drop place (take k f))) (sym e)
    ∙ ap (take n) (drop-take place (n + rest) f)
    ∙ take-take n (n + rest) (drop place f) (omega arith)

-- the bound that the first 32 bytes state is that of the file
pub bound_of-front : (f : List ℕ) → bound_of (take 32 f) ≡ bound_of f
unfolding bound_of
bound_of-front f = ap (from_be_bytes w16) (bytes_at-front f 10 2 20 refl)

-- the version that the first 32 bytes state is that of the file
pub version_of-front : (f : List ℕ) → version_of (take 32 f) ≡ version_of f
unfolding version_of
version_of-front f = ap (λ l. version_by (from_be_bytes w16 l)) (bytes_at-front f 8 2 22 refl)

-- what the bound is
bound_of-bytes : (f : List ℕ) → bound_of f ≡ from_be_bytes w16 (bytes_at f 10 2)
unfolding bound_of
bound_of-bytes f = refl

-- the first 32 bytes, field by field
fields : (f : List ℕ) →
    take 32 f
    ≡ bytes_at f 0 8 ++ bytes_at f 8 2 ++ bytes_at f 10 2 ++ bytes_at f 12 4 ++ bytes_at f 16 4
    ++ bytes_at f 20 12
fields f =
    take-add 20 12 f
    ∙ ap (λ l. l ++ bytes_at f 20 12) (take-add 16 4 f
    ∙ ap (λ l. l ++ bytes_at f 16 4) (take-add 12 4 f
    ∙ ap (λ l. l ++ bytes_at f 12 4) (take-add 10 2 f
    ∙ ap (λ l. l ++ bytes_at f 10 2) (take-add 8 2 f))))

-- of a file of a layout all questions about its first bytes are answered yes, if the numbers of the
-- layout have room in the header, and no record begins in it
module _ (layout : Layout) (number_fits : layout.number < 2 ^ 16)
    (stated_fits : layout.stated < 2 ^ 32) (behind : (r : ℕ) → 32 ≤ layout.place r)
    (f : List ℕ) (file : IsFileBy layout f) where
  pub front_of_file : (t : HeaderTest) → HeaderHoldsBy layout (take 32 f) (length f) t
  front_of_file long_enough =
      let long = behind (count_to (bound_of f)) in
      (omega (arith, length-take 32 f, file.whole, long), omega (arith, file.whole, long))
  front_of_file magic = ap (λ l. bytes_at l 0 8) file.headed
  front_of_file version =
      ap (λ l. from_be_bytes w16 (bytes_at l 8 2)) file.headed
      ∙ from_be_bytes-to_be_bytes_2 layout.number number_fits
  front_of_file bound = omega (arith, bound_of-front f, file.bounded)
  front_of_file count =
      ap (λ l. from_be_bytes w32 (bytes_at l 12 4)) file.headed
      ∙ from_be_bytes-to_be_bytes_4 (count_to (bound_of f))
      (few (count_to (bound_of f)) (count_to-most (bound_of f)))
      ∙ ap count_to (sym (bound_of-front f))
    where
      few : (n : ℕ) → n ≤ 54264 → n < 2 ^ 32
      few n le = omega arith
  front_of_file record_bytes =
      ap (λ l. from_be_bytes w32 (bytes_at l 16 4)) file.headed
      ∙ from_be_bytes-to_be_bytes_4 layout.stated stated_fits
  front_of_file reserved = ap (λ l. bytes_at l 20 12) file.headed
  front_of_file exact_length =
      file.whole ∙ ap (λ b. layout.place (count_to b)) (sym (bound_of-front f))

-- the questions about the file are those about its first bytes, which are the same
of_front : (layout : Layout) (f : List ℕ) (t : HeaderTest) →
    HeaderHoldsBy layout (take 32 f) (length f) t → HeaderHoldsBy layout f (length f) t
of_front layout f long_enough h = (h.1, h.1)
of_front layout f magic h = sym (bytes_at-front f 0 8 24 refl) ∙ h
of_front layout f version h = ap (from_be_bytes w16) (sym (bytes_at-front f 8 2 22 refl)) ∙ h
of_front layout f bound h = omega (arith, bound_of-front f, h)
of_front layout f count h =
    ap (from_be_bytes w32) (sym (bytes_at-front f 12 4 16 refl)) ∙ h
    ∙ ap count_to (bound_of-front f)
of_front layout f record_bytes h =
    ap (from_be_bytes w32) (sym (bytes_at-front f 16 4 12 refl)) ∙ h
of_front layout f reserved h = sym (bytes_at-front f 20 12 0 refl) ∙ h
of_front layout f exact_length h = h ∙ ap (λ b. layout.place (count_to b)) (bound_of-front f)

-- so it states the number of its version
pub stated_number : (layout : Layout) → layout.number < 2 ^ 16 → (f : List ℕ) → IsFileBy layout f →
    from_be_bytes w16 (bytes_at f 8 2) ≡ layout.number
stated_number layout fits f file =
    ap (from_be_bytes w16) (sym (bytes_at-front f 8 2 22 refl))
    ∙ ap (λ l. from_be_bytes w16 (bytes_at l 8 2)) file.headed
    ∙ from_be_bytes-to_be_bytes_2 layout.number fits

-- of a database
pub header_of_file : (f : List ℕ) → IsFile f → IsHeader (take 32 f) (length f)
header_of_file f file t =
    subst (λ v. HeaderHoldsBy (layout_of v) (take 32 f) (length f) t) (sym (version_of-front f))
    (front_of_file (layout_of (version_of f)) (number (version_of f)) (stated (version_of f))
    (header_before (version_of f)) f file t)
  where
    number : (v : Version) → version_number v < 2 ^ 16
    number full = omega arith
    number compact = omega arith

    stated : (v : Version) → stated_length v < 2 ^ 32
    stated full = omega arith
    stated compact = omega arith

-- the questions about the header of a board file are answered yes
pub header_of_board : (f : List ℕ) → IsBoardFile f → IsBoardHeader f
header_of_board f file t =
    of_front board_layout f t
    (front_of_file board_layout (omega arith) (omega arith) behind f file t)
  where
    behind : (r : ℕ) → 32 ≤ board_place r
    behind r = omega (arith, board_place-by r, place_by-most board_length r)

-- a file that has a header fault is no file
pub header_fault_refuses : (f : List ℕ) (t : HeaderTest) →
    IsFirstHeaderFault (take 32 f) (length f) t → ¬ IsFile f
header_fault_refuses f t fault file = fault.fails (header_of_file f file t)

-- bytes of a file whose bytes are under 256 are so
pub small_bytes : (f : List ℕ) (place n : ℕ) → ((i : ℕ) → get_or f i 0 < 256) → (i : ℕ) →
    get_or (bytes_at f place n) i 0 < 256
small_bytes f place n small i = ⊎_elim
    (λ inside.
    subst (λ b. b < 256)
    (sym (get_or-take n (drop place f) i 0 inside ∙ get_or-drop place f i 0))
    (small (place + i)))
    (λ past.
    subst (λ b. b < 256)
    (sym (get_or_past (take n (drop place f)) i 0
    (omega (arith, length-take n (drop place f))))) (omega arith))
    (split i n)
  where
    split : (i n : ℕ) → (i < n) ⊎ (n ≤ i)
    split i n = grind arith

-- a file of which all questions about its header are answered yes, and whose first 32 bytes are
-- under 256; what follows them is not looked at
module _ (layout : Layout) (f : List ℕ) (small : (i : ℕ) → get_or (take 32 f) i 0 < 256)
    (yes_all : (t : HeaderTest) → HeaderHoldsBy layout f (length f) t) where
  long : 32 ≤ length f
  long = (yes_all long_enough).1

  small_here : (place n rest : ℕ) → place + (n + rest) ≡ 32 → (i : ℕ) →
      get_or (bytes_at f place n) i 0 < 256
  small_here place n rest e i =
      subst (λ l. get_or l i 0 < 256) (bytes_at-front f place n rest e)
      (small_bytes (take 32 f) place n small i)

  -- two bytes of a number, and four
  short : (place n rest : ℕ) → place + (2 + rest) ≡ 32 →
      from_be_bytes w16 (bytes_at f place 2) ≡ n → bytes_at f place 2 ≡ to_be_bytes w16 n
  short place n rest e is =
      sym (be_bytes_2 (bytes_at f place 2) n (length-bytes_at f place 2 (omega (arith, long)))
      (small_here place 2 rest e) (sym is))

  word : (place n rest : ℕ) → place + (4 + rest) ≡ 32 →
      from_be_bytes w32 (bytes_at f place 4) ≡ n → bytes_at f place 4 ≡ to_be_bytes w32 n
  word place n rest e is =
      sym (be_bytes_4 (bytes_at f place 4) n (length-bytes_at f place 4 (omega (arith, long)))
      (small_here place 4 rest e) (sym is))

  pub file_of_answers : IsFileBy layout f
  file_of_answers = record {
    bounded = yes_all bound;
    headed = headed;
    whole = yes_all exact_length;
  }
    where
      v : bytes_at f 8 2 ≡ to_be_bytes w16 layout.number
      v = short 8 layout.number 22 refl (yes_all version)

      b : bytes_at f 10 2 ≡ to_be_bytes w16 (bound_of f)
      b = short 10 (bound_of f) 20 refl (sym (bound_of-bytes f))

      n : bytes_at f 12 4 ≡ to_be_bytes w32 (count_to (bound_of f))
      n = word 12 (count_to (bound_of f)) 16 refl (yes_all count)

      r : bytes_at f 16 4 ≡ to_be_bytes w32 layout.stated
      r = word 16 layout.stated 12 refl (yes_all record_bytes)

      headed : take 32 f ≡ header_by layout (bound_of f)
      headed =
          fields f
          ∙ (λ i. (yes_all magic) i ++ v i ++ b i ++ n i ++ r i ++ (yes_all reserved) i)

-- a file with such a header is a database, by the questions about its first bytes
pub file_of_header : (f : List ℕ) → ((i : ℕ) → get_or (take 32 f) i 0 < 256) →
    IsHeader (take 32 f) (length f) → IsFile f
file_of_header f small yes_all =
    file_of_answers (layout_of (version_of f)) f small
    (λ t.
    of_front (layout_of (version_of f)) f t
    (subst (λ v. HeaderHoldsBy (layout_of v) (take 32 f) (length f) t) (version_of-front f)
    (yes_all t)))

-- a file with such a header is a board file, by the questions about its first bytes
pub board_of_header : (f : List ℕ) → ((i : ℕ) → get_or f i 0 < 256) → IsBoardHeader f →
    IsBoardFile f
board_of_header f small = file_of_answers board_layout f (small_bytes f 0 32 small)
