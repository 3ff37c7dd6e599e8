-- The bytes of a number are those of its two halves.
use Rattle.std.proofs.Common.{◌≡◌, ℕ, ◌/◌, ◌%◌, List, ◌∷◌, ◌++◌, ap₂, refl, arith}
use Rattle.std.specs.Int.{w64, w128, to_le_bytes}
use Rattle.retrograde.proofs.kept_shares.low_bytes.Goals as goal

cons : {a b : ℕ} {xs ys : List ℕ} → a ≡ b → xs ≡ ys → a ∷ xs ≡ b ∷ ys
cons e r = ap₂ (λ a xs. a ∷ xs) e r

halves : (n : ℕ) → to_le_bytes w64 (n % 18446744073709551616)
    ++ to_le_bytes w64 (n / 18446744073709551616) ≡ to_le_bytes w128 n
halves n =
    cons (omega arith) (cons (omega arith) (cons (omega arith) (cons (omega arith) (cons
    (omega arith) (cons (omega arith) (cons (omega arith) (cons (omega arith) (cons (omega
    arith) (cons (omega arith) (cons (omega arith) (cons (omega arith) (cons (omega arith)
    (cons (omega arith) (cons (omega arith) (cons (omega arith) (refl))))))))))))))))

pub returns : goal.returns
returns c =
    rw (
      c.copy_from_slice.ensures.after,
      c.copy_from_slice-2.ensures.after,
      c.to_le_bytes.ensures,
      c.to_le_bytes-2.ensures,
    )
    (halves c.args.number)
