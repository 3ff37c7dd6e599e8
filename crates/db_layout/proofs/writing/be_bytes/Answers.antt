use Rattle.std.proofs.Common.{◌≡◌, ℕ, ◌/◌, ◌%◌, List, ◌∷◌, ◌++◌, ap, ap₂, refl, ◌∙◌, arith}
use Rattle.std.specs.Int.{w64, w128, to_be_bytes, to_le_bytes, swap_bytes}
use Rattle.db_layout.proofs.writing.be_bytes.Goals as goal

cons : {a b : ℕ} {xs ys : List ℕ} → a ≡ b → xs ≡ ys → a ∷ xs ≡ b ∷ ys
cons e r = ap₂ (λ a xs. a ∷ xs) e r

-- the bytes of a number are those of its two halves
halves : (n : ℕ) → to_be_bytes w64 (n / 18446744073709551616)
    ++ to_be_bytes w64 (n % 18446744073709551616) ≡ to_be_bytes w128 n
halves n =
    cons (omega arith) (cons (omega arith) (cons (omega arith) (cons (omega arith) (cons
    (omega arith) (cons (omega arith) (cons (omega arith) (cons (omega arith) (cons (omega
    arith) (cons (omega arith) (cons (omega arith) (cons (omega arith) (cons (omega arith)
    (cons (omega arith) (cons (omega arith) (cons (omega arith) (refl))))))))))))))))

-- a number that is turned round, low byte first, has the bytes of the number, high byte first
turned : (n : ℕ) → to_le_bytes w64 (swap_bytes w64 n) ≡ to_be_bytes w64 n
turned n =
    cons (omega arith) (cons (omega arith) (cons (omega arith) (cons (omega arith) (cons
    (omega arith) (cons (omega arith) (cons (omega arith) (cons (omega arith) (refl))))))))

pub returns : goal.returns
returns c =
    rw (
      c.copy_from_slice.ensures.after,
      c.copy_from_slice-2.ensures.after,
      c.to_le_bytes.ensures,
      c.swap_bytes.ensures,
      c.to_be_bytes.ensures,
    )
    (ap (λ (xs : List ℕ). xs ++ to_be_bytes w64 (c.args.number % 18446744073709551616))
    (turned (c.args.number / 18446744073709551616))
    ∙ halves c.args.number)
