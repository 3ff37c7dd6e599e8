-- One die more.
use Rattle.std.proofs.Common.{◌≡◌, ◌+◌, ◌-◌, [], length-set, sym, subst, refl, ◌∙◌, arith, slice_index_or}
use Rattle.race_model.specs.Prelude.{Die, number}
use Rattle.race_model.proofs.Dice.Faces.{number_positive}
use Rattle.race_model.proofs.Plays.Spent.{number_most}
use Rattle.race_model.proofs.Numbers.Members.{set_next}
use Rattle.least_plays.specs.Known.{IsStart, start_of}
use Rattle.least_plays.specs.declared.starts.Start.{Start}
use Rattle.least_plays.proofs.Best.{start_of_least}
use Rattle.least_plays.proofs.room.LeastPlays.starts.Goals as goal

pub loop-index-preserved : goal.loop-index-preserved
loop-index-preserved g c =
    let mean = g.M.RankedMeans.mean c.args.means.now in
    let x = c.args.position.now in
    let index = c.loop-index.index in
    let best = c.best_of-best.result in
    let start = c.start_of.result in
    record {
      len = length-set {A = Start} c.loop-index.dice index start ∙ c.loop-index.invariant.len;
      each = λ other.
          set_next {X = Start}
          (λ j start. (d : Die) → number d ≡ j + 1 → IsStart mean x d start)
          c.loop-index.dice index index start other refl
          (omega (arith, c.loop-index.invariant.len, c.loop-index-test.true))
          (c.loop-index.invariant.each other)
          (λ d is.
          let e : number d - 1 ≡ index = omega (arith, is) in
          subst (IsStart mean x d) (sym c.start_of.ensures)
          (subst (λ i. IsStart mean x d (start_of (slice_index_or best i []) i)) e
          (start_of_least mean (g.M.RankedMeans.count c.args.means.now) c.args.self.now x
          c.requires.next d (slice_index_or best (number d - 1) []) (number d - 1) refl
          (c.best_of-best.ensures.each d))));
    }

pub returns-clause-starts : goal.returns-clause-starts
returns-clause-starts g c = record {
  position = c.requires.next.position;
  unfinished = c.requires.next.unfinished;
  held = c.requires.next.held;
  each = λ d other.
      c.loop-index.invariant.each other (number d - 1)
      (omega (arith, number_positive d, number_most d, c.loop-index-test.false)) d
      (omega (arith, number_positive d));
}
