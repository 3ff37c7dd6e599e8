-- The list of moves as it grows, result by result: each is put in its place by what it costs.
use Rattle.std.proofs.Common.{◌≡◌, ◌≢◌, ◌⊎◌, ◌↔◌, inl, inr, ℕ, ◌+◌, ◌-◌, ◌<◌, ◌≤◌, false, List, [], ◌∷◌, ◌++◌, length}
use Rattle.std.proofs.Common.{get_or, take, map, Contains, All, refl, IsTrue, ap, sym, subst, subst₂, ◌∙◌, arith}
use Rattle.std.specs.List.{insert}
use Rattle.std.proofs.lemmas.List.Edits.{length-insert, get_or-insert_below, get_or-insert_at, get_or-insert_above}
use Rattle.epc_query.specs.declared.choices.RankedChoice.{RankedChoice}
use Rattle.std.proofs.lemmas.Bool.Decides.{nat_tests}
use Rattle.std.proofs.lemmas.List.{take_more, get_or-take, get_or_default, get_or-map, length-map, length-take-le}
use Rattle.std.proofs.lemmas.List.Elements.{Contains-append_left, Contains-push, Contains-push_cases}
use Rattle.std.proofs.lemmas.List.Elements.{All-contains, All-contains_itself}
use Rattle.race_model.specs.Prelude.{Board, IsPosition, finished, Throw, Legal, rank, comes_first, is_before, Book}
use Rattle.race_model.specs.Prelude.{loss_in, IsListedBeforeIn, IsMoveListIn}
use Rattle.race_model.proofs.Ranks.RankOrder.{rank_apart}
use Rattle.legal_plays.specs.RankOrder.{IsInRankOrder}
use Rattle.epc_query.specs.Choices.{ComesFirst, IsByLoss, result_of}

-- of two numbers the first is smaller, or they are one, or the second is smaller
order : (m n : ℕ) → (m < n) ⊎ ((m ≡ n) ⊎ (n < m))
order m n = grind arith

-- what comes first comes before what the second one comes before
first_trans : (a b c : RankedChoice) → ComesFirst a b →
    ComesFirst b c → ComesFirst a c
first_trans a b c first then =
    by a.loss b.loss c.loss a.rank b.rank c.rank first then
  where
    by : (l m n r s t : ℕ) → (l < m) ⊎ ((l ≡ m) × (r < s)) → (m < n) ⊎ ((m ≡ n) × (s < t))
        → (l < n) ⊎ ((l ≡ n) × (r < t))
    by l m n r s t first then = grind arith

-- of two choices of different ranks one comes first
first_or : (a b : RankedChoice) → (¬ ComesFirst a b) →
    a.rank ≢ b.rank → ComesFirst b a
first_or a b never apart = by a.loss b.loss a.rank b.rank never apart
  where
    by : (l m r s : ℕ) → (¬ ((l < m) ⊎ ((l ≡ m) × (r < s)))) → r ≢ s → (m < l) ⊎ ((m ≡ l) × (s < r))
    by l m r s never apart = grind arith

-- a choice in its place
module _ (choices : List RankedChoice) (place : ℕ)
    (choice : RankedChoice)
    (fits : place ≤ length choices) (ordered : IsByLoss choices)
    (fresh : All (λ other. other.rank ≢ choice.rank) choices)
    (before : (k : ℕ) (d : RankedChoice) → k < place
    → ComesFirst (get_or choices k d) choice)
    (after : (d : RankedChoice) → place < length choices →
    ¬ ComesFirst (get_or choices place d) choice)
  where
    -- it comes before those from its place on
    precedes : (k : ℕ) (d : RankedChoice) → place ≤ k → k < length choices →
        ComesFirst choice (get_or choices k d)
    precedes k d from low = elim (order place k) [
      | inl more ↦ first_trans choice (get_or choices place d) (get_or choices k d)
          (next (omega arith)) (ordered.pairs place k d more low)
      | inr same ↦ elim same [
        | inl one ↦ subst (λ n. ComesFirst choice (get_or choices n d)) one
            (next (omega arith))
        | inr less ↦ absurd (omega arith)
      ]
    ]
      where
        next : place < length choices → ComesFirst choice (get_or choices place d)
        next low = first_or (get_or choices place d) choice (after d low) (fresh place d low)

    below : (k : ℕ) (d : RankedChoice) → k < place →
        get_or (insert choices place choice) k d ≡ get_or choices k d
    below k d low = get_or-insert_below choices place choice d k low fits

    here : (k : ℕ) (d : RankedChoice) → place ≡ k
        → get_or (insert choices place choice) k d ≡ choice
    here k d same =
        subst (λ n. get_or (insert choices place choice) n d ≡ choice) same
        (get_or-insert_at choices place choice d fits)

    above : (k : ℕ) (d : RankedChoice) → place < k →
        get_or (insert choices place choice) k d ≡ get_or choices (k - 1) d
    above k d more =
        subst (λ n. get_or (insert choices place choice) n d ≡ get_or choices (k - 1) d)
        (back k more) (get_or-insert_above choices place choice d (k - 1) (omega arith) fits)
      where
        back : (k : ℕ) → place < k → k - 1 + 1 ≡ k
        back k more = omega arith

    pub inserted : IsByLoss (insert choices place choice)
    inserted = record { pairs = pairs }
      where
        pairs : (i j : ℕ) (d : RankedChoice) → i < j → j < length (insert choices place choice) →
            ComesFirst (get_or (insert choices place choice) i d)
            (get_or (insert choices place choice) j d)
        pairs i j d less low =
            let long = length-insert choices place choice fits in
            elim (order place j) [
              | inr upper ↦ elim upper [
                | inl same ↦
                    subst₂ (ComesFirst) (sym (below i d (omega arith))) (sym (here j d same))
                    (before i d (omega arith))
                | inr under ↦
                    subst₂ (ComesFirst) (sym (below i d (omega arith)))
                    (sym (below j d under))
                    (ordered.pairs i j d less (omega arith))
              ]
              | inl past ↦ elim (order place i) [
                | inl more ↦
                    subst₂ (ComesFirst) (sym (above i d more)) (sym (above j d past))
                    (ordered.pairs (i - 1) (j - 1) d (omega arith) (omega arith))
                | inr rest ↦ elim rest [
                  | inl same ↦
                      subst₂ (ComesFirst) (sym (here i d same)) (sym (above j d past))
                      (precedes (j - 1) d (omega arith) (omega arith))
                  | inr under ↦
                      subst₂ (ComesFirst) (sym (below i d under)) (sym (above j d past))
                      (ordered.pairs i (j - 1) d (omega arith) (omega arith))
                ]
              ]
            ]

-- the choices are those of the positions of a list
pub record AreOf (found : List Board) (choices : List RankedChoice) : Type 0 where
  pub from : (c : RankedChoice) → Contains choices c →
      Contains found c.to × (c.rank ≡ rank c.to)
  pub all : (y : Board) → Contains found y → (c : RankedChoice) × Contains choices c × (c.to ≡ y)

-- no choice is in order
pub none_by_loss : IsByLoss []
none_by_loss = record { pairs = λ i j d less low. absurd (omega (arith, low)) }

-- no choice is that of no position
pub none_of : AreOf [] []
none_of = record {
  from = λ c held. absurd (omega (arith, held.1));
  all = λ y held. absurd (omega (arith, held.1));
}

-- with one position more
pub one_more_of : (found : List Board) (i : ℕ) (choices more : List RankedChoice)
    (choice : RankedChoice) → i < length found → choice.to ≡ get_or found i choice.to →
    choice.rank ≡ rank choice.to →
    ((c : RankedChoice) → Contains more c ↔ (Contains choices c ⊎ (c ≡ choice))) →
    AreOf (take i found) choices → AreOf (take (i + 1) found) more
one_more_of found i choices more choice low at ranked members were =
    record { from = from; all = all }
  where
    longer : take (i + 1) found ≡ take i found ++ choice.to ∷ []
    longer = take_more found i choice.to low ∙ ap (λ y. take i found ++ y ∷ []) (sym at)

    from : (c : RankedChoice) → Contains more c →
        Contains (take (i + 1) found) c.to × (c.rank ≡ rank c.to)
    from c held = elim ((members c).0 held) [
      | inl old ↦ let was = were.from c old in (
        subst (λ ys. Contains ys c.to) (sym longer)
            (Contains-append_left (take i found) (choice.to ∷ []) c.to was.0),
        was.1,
      )
      | inr new ↦ subst
          (λ (c : RankedChoice). Contains (take (i + 1) found) c.to × (c.rank ≡ rank c.to))
          (sym new) (
            subst (λ ys. Contains ys choice.to) (sym longer)
                (Contains-push (take i found) choice.to),
            ranked,
          )
    ]

    all : (y : Board) → Contains (take (i + 1) found) y →
        (c : RankedChoice) × Contains more c × (c.to ≡ y)
    all y held = elim (Contains-push_cases (take i found) choice.to y
        (subst (λ ys. Contains ys y) longer held)) [
          | inl old ↦ let was = were.all y old in
              (was.0, (members was.0).1 (inl was.1), was.2)
          | inr new ↦ (choice, (members choice).1 (inr refl), new)
        ]

-- what holds of each element, and of one more, holds of each with that one
pub still_all : {X : Type 0} (P : X → Type 0) (xs more : List X) (x : X) → All P xs → P x →
    ((y : X) → Contains more y ↔ (Contains xs y ⊎ (y ≡ x))) → All P more
still_all P xs more x all is members k d low =
    let y = get_or more k d in
    elim ((members y).0 (All-contains_itself more k d low)) [
      | inl old ↦ All-contains P xs y all old
      | inr new ↦ subst P (sym new) is
    ]

-- no position comes before itself
never_before : (xs : List ℕ) → comes_first xs xs ≡ false
never_before [] = refl
never_before (x ∷ xs) = grind (arith, nat_tests, never_before xs)

pub not_before : (x : Board) → IsTrue (is_before x x) → ⊥
not_before x before = grind (arith, nat_tests, never_before x)

-- the next of positions in the order of ranks has a rank of its own
pub fresh_rank : (found : List Board) (i : ℕ) (choices : List RankedChoice)
    (y : Board) → ((z : Board) → Contains found z → IsPosition z) → IsInRankOrder found →
    i < length found → y ≡ get_or found i y → AreOf (take i found) choices →
    All (λ (c : RankedChoice). c.rank ≢ rank y) choices
fresh_rank found i choices y positions ordered low at are = λ k d inside same.
    let held = All-contains_itself choices k d inside in
    let was = are.from (get_or choices k d) held in
    let other = (get_or choices k d).to in
    let earlier : was.0.0 < i = omega (arith, was.0.1, length-take-le i found (omega arith)) in
    let there : get_or found was.0.0 other ≡ other =
    sym (get_or-take i found was.0.0 other earlier) ∙ was.0.2 in
    let one : other ≡ y =
    rank_apart other y (positions other (was.0.0, omega arith, there))
    (positions y (i, low, sym at)) (sym was.1 ∙ same) in
    not_before y
    (subst₂ (λ u z. IsTrue (is_before u z)) (there ∙ one)
    (get_or_default found i other y low ∙ sym at)
    (ordered.pairs was.0.0 i other earlier low))

-- in order they are the list of moves
pub list_of : (nothing : RankedChoice) (b : Book) (x : Board)
    (v : Throw) (found : List Board) (choices : List RankedChoice) →
    ((y : Board) → Contains found y ↔ Legal x v y) → IsByLoss choices →
    AreOf found choices → All (λ choice. choice.loss ≡ loss_in b x v choice.to) choices →
    IsMoveListIn b x v (map result_of choices)
list_of nothing b x v found choices legal ordered are losses =
    record { members = members; ordered = by_loss }
  where
    members : (y : Board) → Contains (map result_of choices) y ↔ Legal x v y
    members y = (
      λ (i, low, at).
          let within : i < length choices = omega (arith, length-map choices result_of) in
          let held = All-contains_itself choices i nothing within in
          subst (λ z. Legal x v z) (sym (get_or-map result_of choices i nothing y within) ∙ at)
          ((legal (get_or choices i nothing).to).0 (are.from (get_or choices i nothing) held).0),
      λ leads.
          let is = are.all y ((legal y).1 leads) in (
            is.1.0,
            omega (arith, length-map choices result_of, is.1.1),
            get_or-map result_of choices is.1.0 is.0 y is.1.1 ∙ ap result_of is.1.2 ∙ is.2,
          ),
    )

    by_loss : (i j : ℕ) → i < j → j < length (map result_of choices) →
        IsListedBeforeIn b x v (get_or (map result_of choices) i finished)
        (get_or (map result_of choices) j finished)
    by_loss i j before inside =
        let low : j < length choices = omega (arith, length-map choices result_of) in
        let first = get_or choices i nothing in
        let second = get_or choices j nothing in
        let a = are.from first (All-contains_itself choices i nothing (omega arith)) in
        let c = are.from second (All-contains_itself choices j nothing low) in
        let m = losses i nothing (omega arith) in
        let n = losses j nothing low in
        subst₂ (IsListedBeforeIn b x v)
        (sym (get_or-map result_of choices i nothing finished (omega arith)))
        (sym (get_or-map result_of choices j nothing finished low))
        (elim (ordered.pairs i j nothing before low) [
          | inl less ↦ inl (omega (arith, less, m, n))
          | inr tie ↦ inr (omega (arith, tie.0, m, n), omega (arith, tie.1, a.1, c.1))
        ])
