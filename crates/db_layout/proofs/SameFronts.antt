-- What is read in the first bytes of a list is the same in each list that begins with these; and
-- what ends alike.
use Rattle.std.proofs.Common.{◌≡◌, ℕ, ◌+◌, ◌-◌, ◌*◌, ◌≤◌, List, take, drop}
use Rattle.std.proofs.Common.{refl, ap, sym, ◌∙◌, arith}
use Rattle.std.proofs.lemmas.List.{drop-drop}
use Rattle.std.specs.Int.{w16, w64, w128, from_be_bytes}
use Rattle.race_model.specs.Prelude.{bytes_at, count_place, mean_parts, board_play_of, count_parts}
use Rattle.race_model.proofs.RightFiles.CountParts.{same_parts, by_throws}
use Rattle.race_model.proofs.RightFiles.CountParts.{count-short, count-middle, count-long}
use Rattle.db_layout.proofs.ByteParts.{bytes_at-agree, front-agree}
use Rattle.db_layout.specs.BoardRecords.{KeepsBefore}

-- what stays before a place stays before a lower one, and what stays twice stays
pub keeps_twice : (m n : ℕ) (old mid new : List ℕ) → m ≤ n → KeepsBefore m old mid →
    KeepsBefore n mid new → KeepsBefore m old new
keeps_twice m n old mid new le first second = record {
  bytes = front-agree new mid m n le second.bytes ∙ first.bytes;
  len = second.len ∙ first.len;
}

-- what ends alike from a place on does so from a later one
pub rest-agree : (f g : List ℕ) (m n : ℕ) → m ≤ n → drop m f ≡ drop m g → drop n f ≡ drop n g
rest-agree f g m n le same =
    ap (λ k. drop k f) (parts m n le)
    ∙ sym (drop-drop (n - m) m f)
    ∙ ap (drop (n - m)) same
    ∙ drop-drop (n - m) m g
    ∙ ap (λ k. drop k g) (sym (parts m n le))
  where
    parts : (m n : ℕ) → m ≤ n → n ≡ m + (n - m)
    parts m n le = omega (arith, le)

-- what stays from a place on at two steps stays
pub rest_stays : (m n : ℕ) (old mid new : List ℕ) → m ≤ n → drop m mid ≡ drop m old →
    drop n new ≡ drop n mid → drop n new ≡ drop n old
rest_stays m n old mid new le first second = second ∙ rest-agree mid old m n le first

-- what a record says in its first bytes, in two lists that begin alike
module _ (f g : List ℕ) (n : ℕ) (same : take n f ≡ take n g) where
  -- the mean
  pub mean-agree : 24 ≤ n → mean_parts f ≡ mean_parts g
  unfolding mean_parts
  mean-agree within =
      same_parts
      (ap (from_be_bytes w128) (bytes_at-agree f g n 0 16 same (omega arith)))
      (ap (from_be_bytes w64) (bytes_at-agree f g n 16 8 same (omega arith)))

  -- a play
  pub play-agree : (roll : ℕ) → 26 + 2 * roll ≤ n → board_play_of f roll ≡ board_play_of g roll
  unfolding board_play_of
  play-agree roll within =
      ap (from_be_bytes w16) (bytes_at-agree f g n (24 + 2 * roll) 2 same (omega arith))

  -- a count
  pub count-agree : (k : ℕ) → 1 ≤ k → count_place (k + 1) ≤ n → count_parts f k ≡ count_parts g k
  count-agree k some within = by_throws k
      (λ few.
      count-short f k few
      ∙ same_parts refl (word (count_place k) (omega arith))
      ∙ sym (count-short g k few))
      (λ many few.
      count-middle f k many few
      ∙ same_parts (word (count_place k) (omega arith)) (word (count_place k + 8) (omega arith))
      ∙ sym (count-middle g k many few))
      (λ more.
      count-long f k more
      ∙ same_parts
      (ap (from_be_bytes w128) (bytes_at-agree f g n (count_place k) 16 same (omega arith)))
      (word (count_place k + 16) (omega arith))
      ∙ sym (count-long g k more))
    where
      word : (place : ℕ) → place + 8 ≤ n →
          from_be_bytes w64 (bytes_at f place 8) ≡ from_be_bytes w64 (bytes_at g place 8)
      word place inside = ap (from_be_bytes w64) (bytes_at-agree f g n place 8 same inside)
