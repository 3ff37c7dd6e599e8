-- One die more.
use Rattle.std.proofs.Common.{◌≡◌, ◌+◌, ◌-◌, ⊎_elim, List, ℕ, length-set, set, slice_index}
use Rattle.std.proofs.Common.{sym, ap, subst, ◌∙◌, arith}
use Rattle.std.proofs.lemmas.Bool.{cases_lt}
use Rattle.race_model.specs.Prelude.{fewer, more, number, rank}
use Rattle.race_model.proofs.Plays.Spent.{number_most}
use Rattle.least_plays.specs.Firsts.{IsFirst, at_die}
use Rattle.least_plays.specs.Known.{kept_in}
use Rattle.least_plays.proofs.Best.{first_of_highest}
use Rattle.least_plays.proofs.Chains.{at_die-other, at_die-same}
use Rattle.least_plays.proofs.room.LeastPlays.first_best.Goals as goal

pub loop-index-preserved : goal.loop-index-preserved
loop-index-preserved g c =
    let h = c.args.highest in
    let index = c.loop-index.index in
    let best = c.loop-index.best in
    let row = c.kept.result in
    let before = c.loop-index.invariant in
    record {
      len = length-set {A = List ℕ} best index row ∙ before.len;
      each = λ mean x top chain d few j lt.
          let kept = λ (q : ℕ). slice_index (kept_in c.args.self.now.rows q d) j in
          ⊎_elim
          (λ below.
          subst (IsFirst mean kept x d h 1)
          (sym (at_die-other best index row d j (λ e. omega (arith, e, below))))
          (before.each mean x top chain d (omega (arith, below)) j lt))
          (λ past.
          let is : number d ≡ index + 1 = omega (arith, few, past) in
          let pips = c.pips_less_one.result in
          let far : h - (pips + 1) ≡ h - number d =
          c.pips_less_one.ensures.value ∙ ap (λ n. h - n) (sym is) in
          first_of_highest mean kept x d h top
          (at_die (set best index row) d j)
          (at_die-same best index row d j is (omega (arith, before.len, is, number_most d))
          ∙ (ap (λ xs. slice_index xs j) (c.kept.ensures d is)
          ∙ ap kept
          (chain.each pips c.pips_less_one.ensures.within
          ∙ ap (λ t. rank (more (fewer x h) t)) far))))
          (cases_lt (number d) (index + 1));
    }

pub returns : goal.returns
returns g c = λ mean x top chain. record {
  long = c.loop-index.invariant.len;
  each = λ d j lt.
      c.loop-index.invariant.each mean x top chain d
      (omega (arith, number_most d, c.loop-index-test.false)) j lt;
}
