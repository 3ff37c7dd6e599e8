-- Where the moves of a double lead, by how often each point was a source.
use Rattle.std.proofs.Common.{◌≡◌, ℕ, zero, suc, ◌+◌, ◌-◌, ◌<◌, ◌≤◌, List, [], ◌∷◌, ◌++◌, length, get_or}
use Rattle.std.proofs.Common.{map, sum, replicate, cond, eqb, Contains, ◌⊎◌, inl, inr, refl, sym, ◌∙◌, ap, subst}
use Rattle.std.proofs.Common.{arith, length-set}
use Rattle.std.proofs.lemmas.Bool.Decides.{nat_tests}
use Rattle.std.proofs.lemmas.Grind.{common_steps}
use Rattle.std.proofs.lemmas.List.{get_or-map, length-map, length-replicate, ext_get_or}
use Rattle.std.proofs.lemmas.List.Elements.{Contains-append_left, Contains-append_right}
use Rattle.race_model.specs.Prelude.{Board, fewer, more, IsFinished, Die, number, StepFrom, Run, bear_off, move_down}
use Rattle.race_model.specs.Prelude.{from_highest}
use Rattle.race_model.proofs.Dice.Faces.{number_positive}
use Rattle.race_model.proofs.Numbers.Sums.{sum-cons, sum-zeros, zeros_of_sum}
use Rattle.race_model.proofs.Plays.MostPlays.{get_or-zeros}
use Rattle.race_model.proofs.Plays.Needs.{under}
use Rattle.race_model.proofs.Positions.Points.{sum-set, on_board}
use Rattle.race_model.proofs.Ranks.BoxCounts.{one_more}
use Rattle.legal_plays.specs.RankOrder.{IsAscending}
use Rattle.legal_plays.proofs.LegalLemmas.{length-run}
use Rattle.legal_plays.proofs.OrderLemmas.{length-ascending}
use Rattle.legal_plays.proofs.RankLemmas.{rank_cmp_total}

-- what is made of a member is in what is made of the list
Contains-map : {X Y : Type 0} (f : X → Y) (xs : List X) (x : X) → Contains xs x →
    Contains (map f xs) (f x)
Contains-map f xs x (k, inside, at) =
    (k, omega (arith, length-map xs f), get_or-map f xs k x (f x) inside ∙ ap f at)

-- the lists of n numbers whose sum is k
abbrev splits : ℕ → ℕ → List (List ℕ)
splits zero zero = [] ∷ []
splits zero (suc k) = []
splits (suc n) zero = map (λ cs. 0 ∷ cs) (splits n zero)
splits (suc n) (suc k) = map (λ cs. 0 ∷ cs) (splits n (suc k)) ++ map one_more (splits (suc n) k)

-- each list of n numbers whose sum is k is there
Contains-splits : (n k : ℕ) (cs : List ℕ) → length cs ≡ n → sum cs ≡ k → Contains (splits n k) cs
unfolding one_more
Contains-splits zero zero [] long total = (0, omega arith, refl)
Contains-splits zero zero (c ∷ cs) long total = absurd (omega arith)
Contains-splits zero (suc k) [] long total = absurd (omega arith)
Contains-splits zero (suc k) (c ∷ cs) long total = absurd (omega arith)
Contains-splits (suc n) k [] long total = absurd (omega arith)
Contains-splits (suc n) zero (zero ∷ cs) long total =
    Contains-map (λ ds. 0 ∷ ds) (splits n zero) cs
    (Contains-splits n zero cs (omega arith) (omega (arith, sum-cons 0 cs)))
Contains-splits (suc n) zero (suc c ∷ cs) long total = absurd (omega (arith, sum-cons (suc c) cs))
Contains-splits (suc n) (suc k) (zero ∷ cs) long total =
    Contains-append_left (map (λ ds. 0 ∷ ds) (splits n (suc k))) (map one_more (splits (suc n) k))
    (0 ∷ cs)
    (Contains-map (λ ds. 0 ∷ ds) (splits n (suc k)) cs
    (Contains-splits n (suc k) cs (omega arith) (omega (arith, sum-cons 0 cs))))
Contains-splits (suc n) (suc k) (suc c ∷ cs) long total =
    Contains-append_right (map (λ ds. 0 ∷ ds) (splits n (suc k))) (map one_more (splits (suc n) k))
    (suc c ∷ cs)
    (Contains-map one_more (splits (suc n) k) (c ∷ cs)
    (Contains-splits (suc n) k (c ∷ cs) (omega arith)
    (omega (arith, sum-cons (suc c) cs, sum-cons c cs))))

-- there are 126 lists of six numbers whose sum is 4
length-splits : length (splits 6 4) ≡ 126
length-splits = refl

-- 1 where the place i is j, and else 0
unfoldable one_at : ℕ → ℕ → ℕ
one_at j i = cond (eqb i j) 1 0

-- it is the same of two places moved by d
one_at-moved : (j d i k : ℕ) → k + d ≡ j → one_at k i ≡ one_at j (i + d)
unfolding one_at
one_at-moved j d i k e = grind (arith, nat_tests)

-- it is 0 of a place moved by more than j
one_at-below : (j d i : ℕ) → j < d → one_at j (i + d) ≡ 0
unfolding one_at
one_at-below j d i e = grind (arith, nat_tests)

-- the counts after one checker is put on a point
get_or-more : (x : Board) (j i : ℕ) → j < length x →
    get_or (more x (suc j)) i 0 ≡ get_or x i 0 + one_at j i
unfolding one_at
get_or-more x j i inside = grind (arith, common_steps, nat_tests)

-- the counts after one checker is taken away from a point
get_or-fewer : (x : Board) (j i : ℕ) → j < length x → 0 < get_or x j 0 →
    get_or (fewer x (suc j)) i 0 + one_at j i ≡ get_or x i 0
unfolding one_at
get_or-fewer x j i inside occupied = grind (arith, common_steps, nat_tests)

-- n moves of a die that shows d lead from x to y, and cs says how often each point was a source
record HasSources (x : Board) (d n : ℕ) (y : Board) (cs : List ℕ) : Type 0 where
  points : length cs ≡ length x
  total : sum cs ≡ n
  same_length : length y ≡ length x
  counts : (i : ℕ) → get_or y i 0 + get_or cs i 0 ≡ get_or x i 0 + get_or cs (i + d) 0

-- the sources of the moves say where they lead
one_result : (x : Board) (d n : ℕ) (y z : Board) (cs : List ℕ) → HasSources x d n y cs →
    HasSources x d n z cs → y ≡ z
one_result x d n y z cs a b =
    ext_get_or 0 y z (a.same_length ∙ sym b.same_length)
    (λ i inside. omega (arith, a.counts i, b.counts i))

-- one move leads from x to y, and its source is the point j + 1
record HasSource (x : Board) (d : ℕ) (y : Board) (j : ℕ) : Type 0 where
  inside : j < length x
  same_length : length y ≡ length x
  counts : (i : ℕ) → get_or y i 0 + one_at j i ≡ get_or x i 0 + one_at j (i + d)

-- a checker that is borne off from no higher point than the die's
borne_off_source : (x : Board) (d j : ℕ) (y : Board) → j < d → 0 < get_or x j 0 →
    y ≡ fewer x (suc j) → HasSource x d y j
borne_off_source x d j y low occupied to = record {
  inside = on_board x j occupied;
  same_length = ap length to ∙ length-set x j (get_or x j 0 - 1);
  counts =
      λ i.
      rw (to, one_at-below j d i low)
      (omega (arith, get_or-fewer x j i (on_board x j occupied) occupied));
}

-- a checker that is moved down
moved_source : (x : Board) (d j k : ℕ) (y : Board) → k + d ≡ j → 0 < get_or x j 0 →
    y ≡ more (fewer x (suc j)) (suc k) → HasSource x d y j
moved_source x d j k y at occupied to = record {
  inside = on_board x j occupied;
  same_length = ap length to ∙ length-set taken k (get_or taken k 0 + 1) ∙ same;
  counts =
      λ i.
      rw to
      (omega (
        arith,
        get_or-fewer x j i (on_board x j occupied) occupied,
        get_or-more taken k i (omega (arith, same, on_board x j occupied)),
        one_at-moved j d i k at,
      ));
}
  where
    taken : Board
    taken = fewer x (suc j)

    same : length taken ≡ length x
    same = length-set x j (get_or x j 0 - 1)

-- each step has a source
source_of_step : (x : Board) (d s : ℕ) (y : Board) → 0 < d → StepFrom x d s y →
    (j : ℕ) × HasSource x d y j
source_of_step x d zero y positive (bear_off at occupied to) = absurd (omega arith)
source_of_step x d (suc j) y positive (bear_off at occupied to) =
    (j, borne_off_source x d j y (omega arith) occupied to)
source_of_step x d zero y positive (move_down below occupied to) = absurd (omega arith)
source_of_step x d (suc j) y positive (move_down below occupied to) = (
  j,
  moved_source x d j (j - d) y (omega arith) occupied
      (subst (λ t. y ≡ more (fewer x (suc j)) t) (lands j d below) to),
)
  where
    lands : (j d : ℕ) → d < suc j → suc j - d ≡ suc (j - d)
    lands j d h = omega arith
source_of_step x d zero y positive (from_highest empty top to) =
    absurd (let some = top.occupied in omega (arith, some))
source_of_step x d (suc j) y positive (from_highest empty top to) = (
  j,
  borne_off_source x d j y (omega (arith, under x (suc j) d empty top.occupied)) top.occupied to,
)

-- one move before others adds its source to theirs
one_more_source : (x : Board) (d n j : ℕ) (z y : Board) (cs : List ℕ) → HasSource x d z j →
    HasSources z d n y cs → HasSources x d (suc n) y (more cs (suc j))
one_more_source x d n j z y cs one others = record {
  points = length-set cs j (get_or cs j 0 + 1) ∙ others.points ∙ one.same_length;
  total = omega (arith, sum-set cs j (get_or cs j 0 + 1) inside, others.total);
  same_length = others.same_length ∙ one.same_length;
  counts =
      λ i.
      omega (
        arith,
        one.counts i,
        others.counts i,
        get_or-more cs j i inside,
        get_or-more cs j (i + d) inside,
      );
}
  where
    inside : j < length cs
    inside = omega (arith, one.inside, others.points, one.same_length)

-- no move has no source
no_source : (x : Board) (d : ℕ) → HasSources x d 0 x (replicate (length x) 0)
no_source x d = record {
  points = length-replicate (length x) 0;
  total = sum-zeros (replicate (length x) 0) (get_or-zeros (length x));
  same_length = refl;
  counts = λ i. omega (arith, get_or-zeros (length x) i, get_or-zeros (length x) (i + d));
}

-- the moves of a run of one die have sources, or no checker is left
sources_of_run : (n : ℕ) (x : Board) (d : Die) (y : Board) → Run x (replicate n d) y →
    IsFinished y ⊎ ((cs : List ℕ) × HasSources x (number d) n y cs)
sources_of_run zero x d y run =
    inr (
      replicate (length x) 0,
      subst (λ z. HasSources x (number d) 0 z (replicate (length x) 0)) (sym run)
          (no_source x (number d)),
    )
sources_of_run (suc n) x d y run = elim run [
  | inl end ↦ inl (subst IsFinished (sym end.1) end.0)
  | inr move ↦
      let step =
      source_of_step x (number d) move.1.1.0.0 move.1.0 (number_positive d) move.1.1.0.1 in
      elim (sources_of_run n move.1.0 d y move.1.1.1) [
        | inl finished ↦ inl finished
        | inr rest ↦
            inr (
              more rest.0 (suc step.0),
              one_more_source x (number d) n step.0 move.1.0 y rest.0 step.1 rest.1,
            )
      ]
]

-- how a double leads to y: no checker is left, or cs says how often each point was a source
abbrev HasKey : Board → ℕ → Board → List ℕ → Type 0
HasKey x d y cs = (IsFinished y × (length y ≡ length x) × (cs ≡ [])) ⊎ HasSources x d 4 y cs

-- what is known of a double says where it leads
one_key : (x : Board) (d : ℕ) (y z : Board) (cs : List ℕ) → 0 < length x → HasKey x d y cs →
    HasKey x d z cs → y ≡ z
one_key x d y z cs some (inl (done_y, long_y, _)) (inl (done_z, long_z, _)) =
    zeros_of_sum y done_y
    ∙ ap (λ n. replicate n 0) (long_y ∙ sym long_z)
    ∙ sym (zeros_of_sum z done_z)
one_key x d y z cs some (inl (_, _, none)) (inr b) =
    absurd (omega (arith, ap length none, b.points))
one_key x d y z cs some (inr a) (inl (_, _, none)) =
    absurd (omega (arith, ap length none, a.points))
one_key x d y z cs some (inr a) (inr b) = one_result x d 4 y z cs a b

-- a double leads to at most 127 positions
pub length-double : (x : Board) (d : Die) (xs : List Board) → length x ≡ 6 → IsAscending xs →
    ((y : Board) → Contains xs y → Run x (d ∷ d ∷ d ∷ d ∷ []) y) → length xs ≤ 127
length-double x d xs six ascending runs =
    omega (
      arith,
      length-ascending rank_cmp_total (HasKey x (number d))
          (λ y z cs. one_key x (number d) y z cs (omega arith)) xs ([] ∷ splits 6 4)
          ascending.pairs key,
      length-splits,
    )
  where
    key : (y : Board) → Contains xs y →
        (cs : List ℕ) × (Contains ([] ∷ splits 6 4) cs × HasKey x (number d) y cs)
    key y held = elim (sources_of_run 4 x d y (runs y held)) [
      | inl done ↦ (
        [],
        (
          (0, omega arith, refl),
          inl (done, length-run x (d ∷ d ∷ d ∷ d ∷ []) y (runs y held), refl),
        ),
      )
      | inr from ↦ (
        from.0,
        (
          Contains-append_right ([] ∷ []) (splits 6 4) from.0
              (Contains-splits 6 4 from.0 (from.1.points ∙ six) from.1.total),
          inr from.1,
        ),
      )
    ]
