-- By the loop over the spreads, each of which adds up to the whole.
use Rattle.std.proofs.Common.{◌≡◌, ◌⊎◌, ⊎_elim, ℕ, ◌+◌, ◌<◌, [], map, get_or, length, sum}
use Rattle.std.proofs.Common.{ap, ◌∙◌, arith}
use Rattle.std.proofs.lemmas.List.{get_or-map}
use Rattle.fixed_fraction.proofs.sums.law_spreads.Goals as goal

split : (i n : ℕ) → i < n + 1 → (i < n) ⊎ (i ≡ n)
split i n lt = grind arith

pub loop-spread-preserved : goal.loop-spread-preserved
loop-spread-preserved g c =
    let n = c.loop-spread.spread-index in
    let here =
    get_or-map g.S.Distribution.shares c.args.spreads.now n c.spread-item.result [] (omega arith) in
    record {
      wholes = λ i lt. ⊎_elim (λ less. c.loop-spread.invariant.wholes i less)
          (λ same.
          ap (λ j. sum (get_or (map g.S.Distribution.shares c.args.spreads.now) j [])) same
          ∙ (ap sum here ∙ c.end-end.ensures.total))
          (split i n lt);
      lengths = λ i lt. ⊎_elim (λ less. c.loop-spread.invariant.lengths i less)
          (λ same.
          ap (λ j. length (get_or (map g.S.Distribution.shares c.args.spreads.now) j []))
          same
          ∙ (ap length here ∙ c.end-end.ensures.len))
          (split i n lt);
    }

pub returns-clause-wholes : goal.returns-clause-wholes
returns-clause-wholes g c =
    λ i lt. c.loop-spread.invariant.wholes i (omega (arith, c.told-spreads))

pub returns-clause-lengths : goal.returns-clause-lengths
returns-clause-lengths g c =
    λ i lt. c.loop-spread.invariant.lengths i (omega (arith, c.told-spreads))
