use Rattle.std.proofs.Common.{◌≡◌, ◌⊎◌, ⊎_elim, ℕ, suc, ◌*◌, ◌%◌, ◌<◌, ◌≤◌, min, List, get_or}
use Rattle.std.proofs.Common.{refl, ap, arith}
use Rattle.fixed_fraction.proofs.RollSums.{shares-moved}
use Rattle.fixed_fraction.proofs.sums.Sums.put_spread.Goals as goal

split : (j n : ℕ) → (j < n) ⊎ (n ≤ j)
split j n = grind arith

none-left : (share total : ℕ) → share ≡ 0 → total ≡ 0 → 36 * share ≡ total
none-left share total a b = omega arith

-- from the last number of rolls on there is no sum
beyond : (sums : List ℕ) (rolls end k j : ℕ) → ((i : ℕ) → rolls ≤ i → get_or sums i 0 ≡ 0)
    → end ≡ min rolls 22 → end ≤ k → j < 22 → k ≤ j → get_or sums j 0 ≡ 0
beyond sums rolls end k j none is done lt more = none j (omega (arith, is, done, lt, more))

-- all shares are moved, and all sums are multiples
moved : (c : goal.After-loop-k) (j : ℕ) → j < 22 →
    36 * get_or c.loop-k.shares (suc j) 0 ≡ get_or c.self.inside.shares j 0
moved c j lt = ⊎_elim
    (λ less. c.loop-k.invariant.moved j less)
    (λ more.
    none-left _ _ (c.loop-k.invariant.left j more)
    (beyond c.self.inside.shares c.self.inside.rolls c.min-k-end.result c.loop-k.k j
    c.self.invariant.1 c.min-k-end.ensures c.loop-k-test.false lt more))
    (split j c.loop-k.k)

multiples : (c : goal.After-of_whole) (j : ℕ) → j < 22 →
    get_or c.self.inside.shares j 0 % 36 ≡ 0
multiples c j lt = ⊎_elim
    (λ less. c.loop-k.invariant.multiples j less)
    (λ more.
    ap (λ n. n % 36)
    (beyond c.self.inside.shares c.self.inside.rolls c.min-k-end.result c.loop-k.k j
    c.self.invariant.1 c.min-k-end.ensures c.loop-k-test.false lt more))
    (split j c.loop-k.k)

pub of_whole-requires : goal.of_whole-requires
of_whole-requires c =
    shares-moved c.loop-k.shares c.self.inside.shares c.loop-k.invariant.len
    c.self.invariant.0.len c.loop-k.invariant.start (moved c) c.if-self-ne0.false
    c.self.invariant.0.shares

pub returns-clause-all : goal.returns-clause-all
returns-clause-all c =
    rw (← c.self.view_is) (λ _. (c.if-self-ne0.false, multiples c), λ _. refl)
