-- Lists that ascend by a comparison: where an element belongs, what its insertion leaves, and how
-- long they can be.
use Rattle.std.proofs.Common.{◌≡◌, ℕ, suc, ◌+◌, ◌-◌, ◌<◌, ◌≤◌, List, [], ◌∷◌, ◌++◌, length, get_or, ◌⊎◌}
use Rattle.std.proofs.Common.{inl, inr, ◌↔◌, Contains, AllPairs, refl, sym, ◌∙◌, ap, subst, arith}
use Rattle.std.proofs.Common.{eq-or-lt_of_le}
use Rattle.std.specs.declared.cmp.Ordering.{Ordering}
use Rattle.std.specs.declared.cmp.Ordering.TheVariants.{Less, Equal, Greater}
use Rattle.std.specs.Ordering.{ordering_index, ordering_reverse}
use Rattle.std.specs.Cmp.{IsTotalOrder}
use Rattle.std.specs.List.{insert, remove, AllWithin}
use Rattle.std.specs.List.Sorted.{IsNonDecreasingBy, IsPermutation}
use Rattle.std.proofs.lemmas.Bool.{cases_lt}
use Rattle.std.proofs.lemmas.List.Edits.{length-insert, get_or-insert_below, get_or-insert_at, get_or-insert_above}
use Rattle.std.proofs.lemmas.List.Edits.{length-remove}
use Rattle.std.proofs.lemmas.List.Elements.{Contains-append_left, Contains-push, Contains-push_cases}
use Rattle.std.proofs.lemmas.List.Sorted.{IsPermutation-insert, IsPermutation-remove, IsPermutation-to_front}
use Rattle.std.proofs.lemmas.List.Sorted.{IsPermutation-trans, IsPermutation-sym}
use Rattle.std.proofs.lemmas.List.Sorted.{Contains-permutation}
use Rattle.std.proofs.lemmas.Map.Made.{Contains-tail}

-- what is inserted is the one new element
pub Contains-insert : {X : Type 0} (xs : List X) (i : ℕ) (y z : X) →
    Contains (insert xs i y) z ↔ (Contains xs z ⊎ (z ≡ y))
Contains-insert {X} xs i y z = (there, back)
  where
    moved : IsPermutation (xs ++ y ∷ []) (insert xs i y)
    moved = IsPermutation-trans _ _ _ (IsPermutation-to_front xs y) (IsPermutation-insert xs i y)

    there : Contains (insert xs i y) z → Contains xs z ⊎ (z ≡ y)
    there h =
        elim
        (Contains-push_cases xs y z
        (Contains-permutation _ _ z (IsPermutation-sym _ _ moved) h))
        [ inl old ↦ inl old | inr new ↦ inr (sym new) ]

    back : Contains xs z ⊎ (z ≡ y) → Contains (insert xs i y) z
    back h = Contains-permutation _ _ z moved (elim h [
      | inl old ↦ Contains-append_left xs (y ∷ []) z old
      | inr new ↦ subst (λ w. Contains (xs ++ y ∷ []) w) (sym new) (Contains-push xs y)
    ])

-- an element put between the smaller and the greater ones leaves the list ascending
pub AllPairs-insert : {X : Type 0} {R : X → X → Ordering} → IsTotalOrder R →
    (xs : List X) (p : ℕ) (y : X) → p ≤ length xs
    → AllPairs (λ a b. R a b ≡ Less) xs → AllWithin (λ z. R z y ≡ Less) xs 0 p →
    AllWithin (λ z. R z y ≡ Greater) xs p (length xs)
    → AllPairs (λ a b. R a b ≡ Less) (insert xs p y)
AllPairs-insert {X} {R} o xs p y fits ascending less greater i j d before inside =
    elim (cases_lt j p) [
      | inl low ↦ cc (below i (omega arith), below j low, ascending i j d before (omega arith))
      | inr high ↦ elim (eq-or-lt_of_le high) [
        | inl same ↦
            cc (
              below i (omega arith),
              subst (λ k. get_or (insert xs p y) k d ≡ y) same here,
              less i d (omega arith) (omega arith),
            )
        | inr past ↦ elim (cases_lt i p) [
          | inl low ↦
              cc (
                below i low,
                above j past,
                ascending i (j - 1) d (omega arith) (omega (arith, longer)),
              )
          | inr upper ↦ elim (eq-or-lt_of_le upper) [
            | inl same ↦
                cc (
                  subst (λ k. get_or (insert xs p y) k d ≡ y) same here,
                  above j past,
                  o.antisymm y (get_or xs (j - 1) d)
                      ∙ ap ordering_reverse
                      (greater (j - 1) d (omega arith) (omega (arith, longer))),
                )
            | inr later ↦
                cc (
                  above i later,
                  above j past,
                  ascending (i - 1) (j - 1) d (omega arith) (omega (arith, longer)),
                )
          ]
        ]
      ]
    ]
  where
    longer : length (insert xs p y) ≡ length xs + 1
    longer = length-insert xs p y fits

    below : (k : ℕ) → k < p → get_or (insert xs p y) k d ≡ get_or xs k d
    below k h = get_or-insert_below xs p y d k h fits

    here : get_or (insert xs p y) p d ≡ y
    here = get_or-insert_at xs p y d fits

    above : (k : ℕ) → p < k → get_or (insert xs p y) k d ≡ get_or xs (k - 1) d
    above k h =
        let e : k - 1 + 1 ≡ k = omega arith in
        subst (λ m. get_or (insert xs p y) m d ≡ get_or xs (k - 1) d) e
        (get_or-insert_above xs p y d (k - 1) (omega arith) fits)

-- along an ascending list, the comparisons with an element rise
pub rising : {X : Type 0} {R : X → X → Ordering} → IsTotalOrder R → (xs : List X) (y : X) →
    AllPairs (λ a b. R a b ≡ Less) xs
    → IsNonDecreasingBy (λ z. ordering_index (R z y)) xs
rising {X} {R} o xs y ascending i j d le inside =
    elim (eq-or-lt_of_le le) [
      | inl same ↦
          subst (λ k. ordering_index (R (get_or xs i d) y) ≤ ordering_index (R (get_or xs k d) y))
          same (omega arith)
      | inr lt ↦
          step (get_or xs i d) (get_or xs j d) (R (get_or xs i d) y) (R (get_or xs j d) y) refl
          refl (ascending i j d lt inside)
    ]
  where
    step : (a b : X) (r s : Ordering) → R a y ≡ r → R b y ≡ s → R a b ≡ Less →
        ordering_index r ≤ ordering_index s
    step a b Less s p q h = omega arith
    step a b Equal Less p q h = absurd (let e = o.trans a b y h q in cc)
    step a b Equal Equal p q h = omega arith
    step a b Equal Greater p q h = omega arith
    step a b Greater Less p q h = absurd (let e = o.trans a b y h q in cc)
    step a b Greater Equal p q h =
        absurd (let e = o.congr b y a q in let f = o.antisymm y a in let g = o.antisymm b a in cc)
    step a b Greater Greater p q h = omega arith

-- an ascending list whose elements have keys is no longer than the list of the keys, where no two
-- elements have one key
pub length-ascending : {X K : Type 0} {R : X → X → Ordering} → IsTotalOrder R →
    (Has : X → K → Type 0) → ((x y : X) (k : K) → Has x k → Has y k → x ≡ y) →
    (xs : List X) (ks : List K) → AllPairs (λ a b. R a b ≡ Less) xs →
    ((x : X) → Contains xs x → (k : K) × (Contains ks k × Has x k)) → length xs ≤ length ks
length-ascending o Has one [] ks ascending each = omega arith
length-ascending {X} {K} {R} o Has one (x ∷ xs) ks ascending each =
    omega (
      arith,
      length-remove ks key.1.0.0 key.1.0.1,
      length-ascending o Has one xs (remove ks key.1.0.0)
          (λ i j d before inside. ascending (suc i) (suc j) d (omega arith) (omega arith)) others,
    )
  where
    key : (k : K) × (Contains ks k × Has x k)
    key = each x (0, omega arith, refl)

    apart : (y : X) → R x y ≡ Less → x ≡ y → ⊥
    apart y less same =
        let reversed = o.antisymm x x in
        let itself : R x x ≡ Less = subst (λ z. R x z ≡ Less) (sym same) less in
        cc

    others : (y : X) → Contains xs y → (k : K) × (Contains (remove ks key.1.0.0) k × Has y k)
    others y (j, inside, at) =
        let other = each y (suc j, omega arith, at) in
        let later : R x y ≡ Less =
        subst (λ z. R x z ≡ Less) at (ascending 0 (suc j) y (omega arith) (omega arith)) in
        let left =
        Contains-permutation ks (key.0 ∷ remove ks key.1.0.0) other.0
        (IsPermutation-remove ks key.1.0.0 key.0 key.1.0.1 (sym key.1.0.2)) other.1.0 in (
          other.0,
          (
            Contains-tail key.0 (remove ks key.1.0.0) other.0
                (λ same.
                apart y later (one x y other.0 (subst (Has x) same key.1.1) other.1.1)) left,
            other.1.1,
          ),
        )
