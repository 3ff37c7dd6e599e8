-- One die more.
use Rattle.std.proofs.Common.{◌≡◌, ◌+◌, ◌-◌, ◌<◌, [], ⊎_elim, List, ℕ, length-set, set, sym, ap, subst, ◌∙◌, arith}
use Rattle.std.proofs.Common.{slice_index, slice_index_or}
use Rattle.std.proofs.lemmas.Bool.{cases_lt}
use Rattle.race_model.specs.Prelude.{fewer, more, number, rank}
use Rattle.race_model.specs.Positions.{count}
use Rattle.race_model.proofs.Dice.Faces.{number_positive}
use Rattle.race_model.proofs.Plays.Enumerated.{from_occupied}
use Rattle.least_plays.specs.Firsts.{IsBetterOf, IsFirst, at_die}
use Rattle.least_plays.specs.Known.{kept_in}
use Rattle.least_plays.proofs.Best.{first_more, first_same, kept_held_each}
use Rattle.least_plays.proofs.Chains.{die_of, at_die-other, at_die-same, can_step, no_step}
use Rattle.least_plays.proofs.room.LeastPlays.add.Goals as goal

pub returns-then-count-eq0 : goal.returns-then-count-eq0
returns-then-count-eq0 g c =
    let x = c.args.position.now in
    let none = c.if-count-eq0.true in
    let value = c.count.ensures.value in
    record {
      long = c.requires.before.long;
      each = λ d j lt.
          first_same (g.M.RankedMeans.mean c.args.means.now)
          (λ q. slice_index (kept_in c.args.self.now.rows q d) j) x d c.args.highest
          c.requires.highest c.args.point (at_die c.args.best.now d j)
          (λ z step.
          let has = from_occupied x (number d) c.args.point z step in
          absurd (omega (arith, has, none, value)))
          (c.requires.before.each d j lt);
    }

pub loop-index-init : goal.loop-index-init
loop-index-init g c = record {
  len = c.requires.before.long;
  done = λ d few. absurd (omega (arith, few, number_positive d));
  rest = λ d past j lt. c.requires.before.each d j lt;
}

pub better_of_each-requires-clause-ones : goal.better_of_each-requires-clause-ones
better_of_each-requires-clause-ones g c = λ j lt.
    let index = c.loop-index.index in
    let end = c.from-index-end.ensures in
    let inside = c.loop-index-test.true in
    let d = die_of index (omega (arith, end, inside, c.requires.point, c.requires.range)) in
    let first = c.loop-index.invariant.rest d.0 (omega (arith, d.1)) j lt in
    let held = kept_held_each (g.M.RankedMeans.mean c.args.means.now)
    (g.M.RankedMeans.count c.args.means.now) c.args.self.now c.args.position.now c.requires.next
    d.0 first.one.1 j (first.one.0, first.one.2) lt in
    let e : number d.0 - 1 ≡ index = omega (arith, d.1) in
    let same = ap (λ i. slice_index (slice_index_or c.loop-index.best i []) j) e in
    omega (arith, held, first.one.3, same)

pub better_of_each-requires-clause-others : goal.better_of_each-requires-clause-others
better_of_each-requires-clause-others g c = λ j lt.
    let x = c.args.position.now in
    let s = c.args.point in
    let some = c.if-count-eq0.false in
    let value = c.count.ensures.value in
    let occupied : 0 < count x s = omega (arith, some, value) in
    let index = c.loop-index.index in
    let end = c.from-index-end.ensures in
    let inside = c.loop-index-test.true in
    let below : index < s = omega (arith, end, inside) in
    let d = die_of index (omega (arith, below, c.requires.point, c.requires.range)) in
    let few = d.1 in
    let held = kept_held_each (g.M.RankedMeans.mean c.args.means.now)
    (g.M.RankedMeans.count c.args.means.now) c.args.self.now x c.requires.next
    d.0 (more (fewer x s) (s - number d.0)) j
    (s, can_step x (number d.0) s (omega (arith, few, below)) occupied) lt in
    let far : s - (index + 1) ≡ s - number d.0 = ap (λ n. s - n) (sym few) in
    let is : slice_index c.kept.result j
    ≡ slice_index (kept_in c.args.self.now.rows (rank (more (fewer x s) (s - number d.0))) d.0) j =
    ap (λ xs. slice_index xs j) (c.kept.ensures d.0 few)
    ∙ ap (λ q. slice_index (kept_in c.args.self.now.rows q d.0) j)
    ((c.requires.chain occupied).each index below ∙ ap (λ t. rank (more (fewer x s) t)) far) in
    omega (arith, held, is)

pub loop-index-preserved : goal.loop-index-preserved
loop-index-preserved g c =
    let mean = g.M.RankedMeans.mean c.args.means.now in
    let x = c.args.position.now in
    let h = c.args.highest in
    let s = c.args.point in
    let some = c.if-count-eq0.false in
    let value = c.count.ensures.value in
    let occupied : 0 < count x s = omega (arith, some, value) in
    let index = c.loop-index.index in
    let best = c.loop-index.best in
    let row = c.better_of_each.result in
    let before = c.loop-index.invariant in
    let end = c.from-index-end.ensures in
    let inside = c.loop-index-test.true in
    let below_point : index < s = omega (arith, end, inside) in
    let short : index < 6 = omega (arith, below_point, c.requires.point, c.requires.range) in
    record {
      len = length-set {A = List ℕ} best index row ∙ before.len;
      done = λ d few j lt.
          let kept = λ (q : ℕ). slice_index (kept_in c.args.self.now.rows q d) j in
          let z = more (fewer x s) (s - number d) in
          ⊎_elim
          (λ below.
          subst (IsFirst mean kept x d h (s + 1))
          (sym (at_die-other best index row d j (λ e. omega (arith, e, below))))
          (before.done d (omega (arith, below)) j lt))
          (λ past.
          let is : number d ≡ index + 1 = omega (arith, few, past) in
          let now = at_die (set best index row) d j in
          let e : index ≡ number d - 1 = omega (arith, is) in
          let here : slice_index (slice_index_or best index []) j ≡ at_die best d j =
          ap (λ i. slice_index (slice_index_or best i []) j) e in
          let far : s - (index + 1) ≡ s - number d = ap (λ n. s - n) (sym is) in
          let there : slice_index c.kept.result j ≡ kept (rank z) =
          ap (λ xs. slice_index xs j) (c.kept.ensures d is)
          ∙ ap kept
          ((c.requires.chain occupied).each index below_point
          ∙ ap (λ t. rank (more (fewer x s) t)) far) in
          let new : slice_index row j ≡ now =
          sym (at_die-same best index row d j is (omega (arith, before.len, short))) in
          first_more mean kept x d h c.requires.highest s (at_die best d j) now
          (omega (arith, is, below_point)) occupied
          (before.rest d (omega (arith, is)) j lt)
          (subst (λ q. IsBetterOf mean q (kept (rank z)) now) here
          (subst (λ q. IsBetterOf mean (slice_index (slice_index_or best index []) j) q now) there
          (subst (λ q. IsBetterOf mean (slice_index (slice_index_or best index []) j)
          (slice_index c.kept.result j) q) new
          (c.better_of_each.ensures.better j lt)))))
          (cases_lt (number d) (index + 1));
      rest = λ d past j lt.
          let kept = λ (q : ℕ). slice_index (kept_in c.args.self.now.rows q d) j in
          subst (IsFirst mean kept x d h s)
          (sym (at_die-other best index row d j (λ e. omega (arith, e, past))))
          (before.rest d (omega (arith, past)) j lt);
    }

pub returns : goal.returns
returns g c =
    let x = c.args.position.now in
    let s = c.args.point in
    let end = c.from-index-end.ensures in
    let past_end = c.loop-index-test.false in
    let most = c.loop-index.auto.index-end in
    let index = c.loop-index.index in
    let all : index ≡ s = omega arith in
    record {
      long = c.loop-index.invariant.len;
      each = λ d j lt. ⊎_elim
          (λ past.
          first_same (g.M.RankedMeans.mean c.args.means.now)
          (λ q. slice_index (kept_in c.args.self.now.rows q d) j) x d c.args.highest
          c.requires.highest s (at_die c.loop-index.best d j)
          (λ z step.
          no_step x (number d) s c.args.highest z c.requires.highest c.requires.point
          (omega (arith, past, all)) step)
          (c.loop-index.invariant.rest d past j lt))
          (λ few. c.loop-index.invariant.done d few j lt)
          (cases_lt index (number d));
    }
