-- What dice make of positions.
use Rattle.std.proofs.Common.{◌≡◌, ℕ, zero, ◌+◌, ◌<◌, List, [], ◌∷◌, ◌++◌, length, get_or, take}
use Rattle.std.proofs.Common.{◌⊎◌, inl, inr, ◌↔◌, Contains, sym, ◌∙◌, ap, subst, refl, suc, arith}
use Rattle.std.proofs.lemmas.List.{take_more}
use Rattle.std.proofs.lemmas.List.Elements.{Contains-append_left, Contains-push, Contains-push_cases}
use Rattle.race_model.specs.Prelude.{Board, IsFinished, Die, Step, Run}
use Rattle.legal_plays.specs.MoveLists.{PlaysDie}

-- what the die makes of one more position
pub one_more_position : (xs : List Board) (i : ℕ) (z y : Board) (d : Die) (Before Now : Type 0) →
    i < length xs → z ≡ get_or xs i z
    → (Now ↔ (Before ⊎ PlaysDie z d y))
    → (Before ↔ ((x : Board) × (Contains (take i xs) x × PlaysDie x d y)))
    → Now ↔ ((x : Board) × (Contains (take (i + 1) xs) x × PlaysDie x d y))
one_more_position xs i z y d Before Now low at now before = (there, back)
  where
    more : take (i + 1) xs ≡ take i xs ++ z ∷ []
    more = take_more xs i z low ∙ ap (λ w. take i xs ++ w ∷ []) (sym at)

    there : Now → (x : Board) × (Contains (take (i + 1) xs) x × PlaysDie x d y)
    there got = rw more (elim (now.0 got) [
      | inl was ↦
          let e = before.0 was in
          (e.0, (Contains-append_left (take i xs) (z ∷ []) e.0 e.1.0, e.1.1))
      | inr play ↦ (z, (Contains-push (take i xs) z, play))
    ])

    back : ((x : Board) × (Contains (take (i + 1) xs) x × PlaysDie x d y)) → Now
    back (x, (held, play)) = elim (Contains-push_cases (take i xs) z x (rw more at held)) [
      | inl old ↦ now.1 (inl (before.1 (x, (old, play))))
      | inr new ↦ now.1 (inr (subst (λ w. PlaysDie w d y) (sym new) play))
    ]

-- a finished position stays
pub stays : (z y : Board) (d : Die) (Before Now : Type 0) → IsFinished z →
    (Now ↔ (Before ⊎ (y ≡ z))) → Now ↔ (Before ⊎ PlaysDie z d y)
stays z y d Before Now done now = (
  λ got. elim (now.0 got) [ inl was ↦ inl was | inr same ↦ inr (inl (done, same)) ],
  λ got. elim got [
    | inl was ↦ now.1 (inl was)
    | inr play ↦ elim play [ inl end ↦ now.1 (inr end.1) | inr move ↦ absurd (move.0 done) ]
  ],
)

-- any other position makes a step
pub steps_on : (z y : Board) (d : Die) (Before Now : Type 0) → (¬ IsFinished z) →
    (Now ↔ (Before ⊎ Step z d y)) → Now ↔ (Before ⊎ PlaysDie z d y)
steps_on z y d Before Now left now = (
  λ got. elim (now.0 got) [ inl was ↦ inl was | inr step ↦ inr (inr (left, step)) ],
  λ got. elim got [
    | inl was ↦ now.1 (inl was)
    | inr play ↦ elim play [ inl end ↦ absurd (left end.0) | inr move ↦ now.1 (inr move.1) ]
  ],
)

-- a run leaves a finished position as it is
pub run_finished : (x y : Board) (dice : List Die) → IsFinished x → Run x dice y ↔ (y ≡ x)
run_finished x y [] done = (λ same. same, λ same. same)
run_finished x y (d ∷ dice) done = (
  λ run. elim run [ inl end ↦ end.1 | inr move ↦ absurd (move.0 done) ],
  λ same. inl (done, same),
)

-- a run of one die more goes on with that die
run_last : (x y : Board) (dice : List Die) (d : Die) →
    Run x (dice ++ d ∷ []) y ↔ ((z : Board) × (Run x dice z × PlaysDie z d y))
run_last x y [] d = (there, back)
  where
    there : Run x (d ∷ []) y → (z : Board) × ((z ≡ x) × PlaysDie z d y)
    there run = elim run [
      | inl end ↦ (x, (refl, inl end))
      | inr move ↦ (x, (refl, inr (move.0, subst (Step x d) (sym move.1.1.1) move.1.1.0)))
    ]

    back : ((z : Board) × ((z ≡ x) × PlaysDie z d y)) → Run x (d ∷ []) y
    back (z, (same, play)) =
        elim (subst (λ w. PlaysDie w d y) same play)
        [ inl end ↦ inl end | inr move ↦ inr (move.0, (y, (move.1, refl))) ]
run_last x y (e ∷ dice) d = (there (λ w. run_last w y dice d), back (λ w. run_last w y dice d))
  where
    there : ((w : Board) →
        Run w (dice ++ d ∷ []) y ↔ ((z : Board) × (Run w dice z × PlaysDie z d y)))
        → Run x (e ∷ (dice ++ d ∷ [])) y → (z : Board) × (Run x (e ∷ dice) z × PlaysDie z d y)
    there later run = elim run [
      | inl end ↦ (x, (inl (end.0, refl), inl end))
      | inr move ↦
          let rest = (later move.1.0).0 move.1.1.1 in
          (rest.0, (inr (move.0, (move.1.0, (move.1.1.0, rest.1.0))), rest.1.1))
    ]

    back : ((w : Board) →
        Run w (dice ++ d ∷ []) y ↔ ((z : Board) × (Run w dice z × PlaysDie z d y)))
        → ((z : Board) × (Run x (e ∷ dice) z × PlaysDie z d y)) → Run x (e ∷ (dice ++ d ∷ [])) y
    back later (z, (run, play)) = elim run [
      | inl end ↦
          elim (subst (λ w. PlaysDie w d y) end.1 play)
          [ inl done ↦ inl done | inr move ↦ absurd (move.0 end.0) ]
      | inr move ↦
          inr (move.0, (move.1.0, (move.1.1.0, (later move.1.0).1 (z, (move.1.1.1, play)))))
    ]

-- what one die more makes of the positions that dice lead to
pub next_die : (x : Board) (dice : List Die) (d : Die) (xs zs : List Board) →
    ((z : Board) → Contains xs z ↔ Run x dice z)
    → ((y : Board) → Contains zs y ↔ ((z : Board) × (Contains xs z × PlaysDie z d y))) →
    (y : Board) →
    Contains zs y ↔ Run x (dice ++ d ∷ []) y
next_die x dice d xs zs before now y = (
  λ held.
      let from = (now y).0 held in
      (run_last x y dice d).1 (from.0, ((before from.0).0 from.1.0, from.1.1)),
  λ run.
      let from = (run_last x y dice d).0 run in
      (now y).1 (from.0, ((before from.0).1 from.1.0, from.1.1)),
)

-- what the first die makes of a position
pub first_die : (x : Board) (d : Die) (zs : List Board) →
    ((y : Board) → Contains zs y ↔ ((z : Board) × (Contains (x ∷ []) z × PlaysDie z d y)))
    → (y : Board) → Contains zs y ↔ Run x (d ∷ []) y
first_die x d zs now y =
    next_die x [] d (x ∷ []) zs
    (λ z. ((λ held. only z held), (λ same. (zero, omega arith, sym same)))) now y
  where
    only : (z : Board) → Contains (x ∷ []) z → z ≡ x
    only z (zero, low, at) = sym at
    only z (suc k, low, at) = absurd (omega arith)

-- one more of other positions
pub one_more_other : (xs : List Board) (i : ℕ) (z y : Board) (Old Before Now : Type 0) →
    i < length xs → z ≡ get_or xs i z
    → (Now ↔ (Before ⊎ (y ≡ z))) → (Before ↔ (Old ⊎ Contains (take i xs) y)) →
    Now ↔ (Old ⊎ Contains (take (i + 1) xs) y)
one_more_other xs i z y Old Before Now low at now before = (there, back)
  where
    more : take (i + 1) xs ≡ take i xs ++ z ∷ []
    more = take_more xs i z low ∙ ap (λ w. take i xs ++ w ∷ []) (sym at)

    there : Now → Old ⊎ Contains (take (i + 1) xs) y
    there got = rw more (elim (now.0 got) [
      | inl was ↦ elim (before.0 was) [
        | inl old ↦ inl old
        | inr held ↦ inr (Contains-append_left (take i xs) (z ∷ []) y held)
      ]
      | inr new ↦
          inr (subst (λ w. Contains (take i xs ++ z ∷ []) w) (sym new)
          (Contains-push (take i xs) z))
    ])

    back : Old ⊎ Contains (take (i + 1) xs) y → Now
    back got = elim got [
      | inl old ↦ now.1 (inl (before.1 (inl old)))
      | inr held ↦ elim (Contains-push_cases (take i xs) z y (rw more at held)) [
        | inl was ↦ now.1 (inl (before.1 (inr was)))
        | inr same ↦ now.1 (inr (sym same))
      ]
    ]
