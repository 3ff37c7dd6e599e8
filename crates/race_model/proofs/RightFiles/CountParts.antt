-- The parts of a count in the bytes of a board record, by its number of throws.
use Rattle.std.proofs.Common.{◌≡◌, ⊎_elim, ℕ, zero, suc, ◌+◌, ◌<◌, ◌≤◌, List, cond, refl, ap, ap₂, arith}
use Rattle.std.proofs.lemmas.Bool.{le-leb, lt-leb, cases_lt}
use Rattle.std.specs.Int.{w64, w128, from_be_bytes}
use Rattle.race_model.specs.Prelude.{most_rolls, bytes_at, Parts, value_of_parts, count_place, count_parts, told_count}

-- two parts
abbrev pub parts_of : ℕ → ℕ → Parts
parts_of upper lower = record { upper = upper; lower = lower }

-- two parts that are alike
pub same_parts : {a b c d : ℕ} → a ≡ b → c ≡ d → parts_of a c ≡ parts_of b d
same_parts e r = ap₂ parts_of e r

-- a count is of at most 11 throws, of at most 22, or of more
pub by_throws : {A : Type 0} (k : ℕ) → (k ≤ 11 → A) → (11 < k → k ≤ 22 → A) → (22 < k → A) → A
by_throws k short middle long =
    ⊎_elim (λ many. ⊎_elim long (middle many) (cases_lt 22 k)) short (cases_lt 11 k)

-- the count in the bytes of a record, to 11 throws, to 22 and to 33
pub count-short : (bs : List ℕ) (k : ℕ) → k ≤ 11 →
    count_parts bs k ≡ parts_of 0 (from_be_bytes w64 (bytes_at bs (count_place k) 8))
unfolding count_parts
count-short bs k few = rw (le-leb k 11 few) refl

pub count-middle : (bs : List ℕ) (k : ℕ) → 11 < k → k ≤ 22 →
    count_parts bs k
    ≡ parts_of (from_be_bytes w64 (bytes_at bs (count_place k) 8))
    (from_be_bytes w64 (bytes_at bs (count_place k + 8) 8))
unfolding count_parts
count-middle bs k many few = rw (lt-leb k 11 many, le-leb k 22 few) refl

pub count-long : (bs : List ℕ) (k : ℕ) → 22 < k →
    count_parts bs k
    ≡ parts_of (from_be_bytes w128 (bytes_at bs (count_place k) 16))
    (from_be_bytes w64 (bytes_at bs (count_place k + 16) 8))
unfolding count_parts
count-long bs k many = rw (lt-leb k 11 (omega arith), lt-leb k 22 many) refl

-- the count in the bytes of a record is the one that is told, to the most rolls of the pip count
pub told_some : (p k : ℕ) (bs : List ℕ) → 0 < k → k ≤ most_rolls p →
    told_count p bs k ≡ value_of_parts (count_parts bs k)
told_some p zero bs some within = absurd (omega arith)
told_some p (suc k) bs some within =
    ap (λ b. cond b (value_of_parts (count_parts bs (suc k))) 0)
    (le-leb (suc k) (most_rolls p) within)
