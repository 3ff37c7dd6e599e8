-- What is listed by rank, item after item.
use Rattle.std.proofs.Common.{◌≡◌, ℕ, ◌+◌, ◌<◌, ◌≤◌, ◌⊎◌, inl, inr, List, length, get_or, set, sym, ap, subst, ◌∙◌}
use Rattle.std.proofs.Common.{arith, drop}
use Rattle.std.proofs.lemmas.Bool.{cases_lt}
use Rattle.std.proofs.lemmas.List.{get_or-set_other, drop_more}
use Rattle.std.proofs.lemmas.Grind.{get_or-set_at}
use Rattle.race_model.specs.Prelude.{Board, IsPosition, rank, count_to, Book, IsRightBook, IsRightIn}
use Rattle.race_model.proofs.Ranks.RankOrder.{rank_bound}

-- the first n items of a list say so of their positions
abbrev pub SaysTo : {T : Type 0} → ℕ → ℕ → List T → (Board → T → Type 0) → Type 0
SaysTo n first items Says =
    (x : Board) (i : ℕ) (d : _) → IsPosition x → rank x ≡ first + i → i < n
    → Says x (get_or items i d)

-- one item more
pub says_more : {T : Type 0} (n first : ℕ) (items : List T) (item : T)
    (Says : Board → T → Type 0) → n < length items → SaysTo n first items Says
    → ((x : Board) → IsPosition x → rank x ≡ first + n → Says x item)
    → SaysTo (n + 1) first (set items n item) Says
says_more n first items item Says low was is x i d at ranked under = by_cases (cases_lt i n) where
  by_cases : (i < n) ⊎ (n ≤ i) → Says x (get_or (set items n item) i d)
  by_cases (inl less) =
      let other : i ≡ n → ⊥ = λ e. let never : ⊥ = omega (arith, e, less) in never in
      subst (Says x) (sym (get_or-set_other items n i item d other)) (was x i d at ranked less)
  by_cases (inr most) =
      let same : i ≡ n = omega (arith, most, under) in
      subst (Says x) (sym (get_or-set_at items n i item d same low))
      (is x at (ranked ∙ ap (λ k. first + k) same))

-- the rest of a list doesn't change where one of its front is written
pub rest_stays : {X : Type 0} (xs ys : List X) (i : _) (x d : X) → i < length xs → i < length ys →
    drop i xs ≡ drop i ys → drop (i + 1) xs ≡ drop (i + 1) ys
rest_stays xs ys i x d low less e =
    ap (drop 1) (sym (drop_more xs i d low) ∙ e ∙ drop_more ys i d less)

-- a position whose rank a right book has is right by it
pub right_at : (b : Book) (r : ℕ) → IsRightBook b → r < count_to b.bound → (x : Board) →
    IsPosition x → rank x ≡ r → IsRightIn b x
right_at b r right under x at ranked =
    right x at ((rank_bound x b.bound at).0 (subst (λ n. n < count_to b.bound) (sym ranked) under))
