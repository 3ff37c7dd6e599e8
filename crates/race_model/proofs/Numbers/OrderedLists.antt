-- Two lists in one strict order that have the same members are one list.
use Rattle.std.proofs.Common.{◌≡◌, ◌⊎◌, inl, inr, ⊎_elim, ◌↔◌, ℕ, zero, suc, ◌<◌, List, [], ◌∷◌}
use Rattle.std.proofs.Common.{length, get_or, Contains, refl, ap₂, sym, subst, ◌∙◌, arith}

-- an element of a list doesn't go by what stands past its end
same_default : {X : Type 0} (xs : List X) (k : ℕ) (d e : X) → k < length xs →
    get_or xs k d ≡ get_or xs k e
same_default [] k d e h = absurd (omega arith)
same_default (x ∷ xs) zero d e h = refl
same_default (x ∷ xs) (suc k) d e h = same_default xs k d e (omega arith)

-- a strict order
module _ {X : Type 0} (R : X → X → Type 0) (one_way : (x y : X) → R x y → R y x → ⊥) (d : X) where
  -- each element comes before those that follow it
  abbrev IsOrdered : List X → Type 0
  IsOrdered xs = (i j : ℕ) → i < j → j < length xs → R (get_or xs i d) (get_or xs j d)

  -- an element of a list is its head, or stands after it
  head_or_after : (y : X) (ys : List X) (x : X) → IsOrdered (y ∷ ys) → Contains (y ∷ ys) x →
      (y ≡ x) ⊎ (R y x × Contains ys x)
  head_or_after y ys x ordered (zero, h, e) = inl e
  head_or_after y ys x ordered (suc k, h, e) =
      inr (
        subst (R y) (same_default ys k d x (omega arith) ∙ e)
            (ordered 0 (suc k) (omega arith) h),
        (k, omega arith, e),
      )

  -- the tail of an ordered list is ordered
  tail_ordered : (y : X) (ys : List X) → IsOrdered (y ∷ ys) → IsOrdered ys
  tail_ordered y ys ordered i j before inside = ordered (suc i) (suc j) (omega arith) (omega arith)

  -- ordered lists with the same members have the same head
  same_head : (x : X) (xs : List X) (y : X) (ys : List X) → IsOrdered (x ∷ xs) →
      IsOrdered (y ∷ ys) → ((z : X) → Contains (x ∷ xs) z ↔ Contains (y ∷ ys) z) → x ≡ y
  same_head x xs y ys ox oy same = ⊎_elim
      (λ e. sym e)
      (λ after.
      ⊎_elim (λ e. e) (λ before. absurd (one_way y x after.0 before.0))
      (head_or_after x xs y ox ((same y).1 (0, omega arith, refl))))
      (head_or_after y ys x oy ((same x).0 (0, omega arith, refl)))

  -- ordered lists with the same members have tails with the same members
  tail_members : (x : X) (xs ys : List X) → IsOrdered (x ∷ xs) → IsOrdered (x ∷ ys) →
      ((z : X) → Contains (x ∷ xs) z → Contains (x ∷ ys) z) → (z : X) → Contains xs z →
      Contains ys z
  tail_members x xs ys ox oy same z (k, h, e) = ⊎_elim
      (λ f. absurd (twice f))
      (λ after. after.1)
      (head_or_after x ys z oy (same z (suc k, omega arith, e)))
    where
      twice : x ≡ z → ⊥
      twice f =
          let later : R x z =
          subst (R x) (same_default xs k d z h ∙ e)
          (ox 0 (suc k) (omega arith) (omega arith)) in
          let itself : R x x = subst (R x) (sym f) later in
          one_way x x itself itself

  -- so they are one list
  pub one_list : (xs ys : List X) → IsOrdered xs → IsOrdered ys →
      ((z : X) → Contains xs z ↔ Contains ys z) → xs ≡ ys
  one_list [] [] ox oy same = refl
  one_list [] (y ∷ ys) ox oy same = absurd (none ((same y).1 (0, omega arith, refl)))
    where
      none : Contains [] y → ⊥
      none (k, h, e) = omega arith
  one_list (x ∷ xs) [] ox oy same = absurd (none ((same x).0 (0, omega arith, refl)))
    where
      none : Contains [] x → ⊥
      none (k, h, e) = omega arith
  one_list (x ∷ xs) (y ∷ ys) ox oy same =
      by (same_head x xs y ys ox oy same)
      (one_list xs ys (tail_ordered x xs ox) (tail_ordered y ys oy))
    where
      by : x ≡ y → (((z : X) → Contains xs z ↔ Contains ys z) → xs ≡ ys) → x ∷ xs ≡ y ∷ ys
      by e rest = ap₂ (λ c cs. c ∷ cs) e (rest (λ z. (forth z, back z)))
        where
          oy_x : IsOrdered (x ∷ ys)
          oy_x = subst (λ c. IsOrdered (c ∷ ys)) (sym e) oy

          forth : (z : X) → Contains xs z → Contains ys z
          forth =
              tail_members x xs ys ox oy_x
              (λ z h. subst (λ c. Contains (c ∷ ys) z) (sym e) ((same z).0 h))

          back : (z : X) → Contains ys z → Contains xs z
          back =
              tail_members x ys xs oy_x ox
              (λ z h. (same z).1 (subst (λ c. Contains (c ∷ ys) z) e h))
