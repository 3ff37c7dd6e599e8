-- All points below the highest are added.
use Rattle.std.proofs.Common.{◌≡◌, ℕ, ◌-◌, ◌<◌, ⊎_elim, List, [], sym, subst, arith, slice_index, slice_index_or}
use Rattle.std.proofs.lemmas.Bool.{cases_lt}
use Rattle.race_model.specs.Prelude.{Board, IsFinished, IsHighest}
use Rattle.ranking.specs.Chains.{IsChain}
use Rattle.least_plays.specs.Firsts.{at_die}
use Rattle.least_plays.specs.Known.{kept_in}
use Rattle.least_plays.proofs.Best.{first_all}
use Rattle.least_plays.proofs.room.LeastPlays.best_of.Goals as goal

-- an unfinished position has a highest point
highest_of : (x : Board) (h : ℕ) → ¬ IsFinished x → (h ≡ 0 → IsFinished x) →
    (0 < h → IsHighest x h) → (0 < h) × IsHighest x h
highest_of x h unfinished none top = ⊎_elim
    (λ some. (some, top some))
    (λ zero. absurd (unfinished (none (omega (arith, zero)))))
    (cases_lt 0 h)

pub loop-point-init : goal.loop-point-init
loop-point-init g c = record {
  some = omega arith;
  firsts =
      let x = c.args.position.now in
      let h = c.highest-highest.result in
      let top = (highest_of x h c.requires.next.unfinished c.highest-highest.ensures.none.0
      c.highest-highest.ensures.highest).1 in
      c.first_best-best.ensures (g.M.RankedMeans.mean c.args.means.now) x top
      (subst (λ i. IsChain x h (slice_index_or {A = List ℕ} c.chains-chains.result (i - 1) []))
      (sym c.from.ensures) (c.chains-chains.ensures h top.occupied));
}

pub returns : goal.returns
returns g c =
    let x = c.args.position.now in
    let h = c.highest-highest.result in
    let top = highest_of x h c.requires.next.unfinished c.highest-highest.ensures.none.0
    c.highest-highest.ensures.highest in
    let past_end = c.loop-point-test.false in
    let most = c.loop-point.auto.point-end in
    let some = c.loop-point.invariant.some in
    let end : c.loop-point.point ≡ h = omega (arith, top.0, past_end, most, some) in
    record {
      long = c.loop-point.invariant.firsts.long;
      each = λ d j lt.
          first_all (g.M.RankedMeans.mean c.args.means.now)
          (λ q. slice_index (kept_in c.args.self.now.rows q d) j) x d h top.1 c.loop-point.point
          (at_die c.loop-point.best d j) end
          (c.loop-point.invariant.firsts.each d j lt);
    }
