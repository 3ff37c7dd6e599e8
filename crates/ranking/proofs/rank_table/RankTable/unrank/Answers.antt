use Rattle.std.proofs.Common.{◌≡◌, ℕ, ◌+◌, ◌≤◌, List, get_or, Result, Ok, Err, IfOk, IfSome, ap, subst, sym, ◌∙◌, arith}
use Rattle.std.specs.Result.{result_ok}
use Rattle.race_model.specs.Prelude.{checkers, rank, at_rank, first_of}
use Rattle.race_model.proofs.Ranks.RankOrder.{at_rank_position}
use Rattle.race_model.proofs.Ranks.PositionTotals.{rank-at_rank}
use Rattle.ranking.proofs.Counting.{IsCounted, IsStart, start_at, written_start, written_next, written_all}
use Rattle.ranking.proofs.rank_table.RankTable.unrank.Goals as goal

pub loop-point-init : goal.loop-point-init
loop-point-init c =
    let start : IsStart c.args.index c.pips_of-pips.result (get_or c.args.self.now.starts
    (c.from.result + 1) 0) =
    start_at _ _ _ c.if-index-ge-POSITIONS.false c.pips_of-pips.ensures.from
    c.pips_of-pips.ensures.to
    (c.requires.summed (c.from.result + 1) (omega arith)
    ∙ ap (λ m. first_of (m + 1)) c.from.ensures) in
    written_start _ _ _ start.is_position start.weighs c.pips_of-pips.ensures.range start.left

pub loop-point-preserved : goal.loop-point-preserved
loop-point-preserved c =
    let counted : IsCounted c.loop-point.point c.loop-point.checkers_left c.loop-point.pips_left
    c.loop-point.later c.count_at-count.result =
    record {
      fits = c.count_at-count.ensures.fits;
      weight = c.count_at-count.ensures.weight;
      least = c.count_at-count.ensures.least;
    } in
    let next =
    written_next _ _ _ _ _ _ _ (at_rank_position c.args.index) c.loop-point.auto.point
    c.loop-point-test.true c.loop-point.invariant counted
    c.count_at-count.ensures.enough in
    rw (c.used-later.ensures, c.from-in-loop-point.ensures) next.next

-- the counts are those of the position of the rank
found : (c : goal.After-ok) → c.loop-point.counts ≡ at_rank c.args.index
found c =
    written_all _ _ _ _ _ _ (at_rank_position c.args.index) (omega arith) c.loop-point.invariant

-- what holds of the counts holds of the position that they make
some_from_ok : {E : Type 0} (r : Result (List ℕ) E) (P : List ℕ → Type 0) (counts : List ℕ) →
    P counts → IfOk r (λ x. x ≡ counts) → IfSome (result_ok r) P
some_from_ok (Ok x) P counts p e = subst P (sym e) p
some_from_ok (Err e) P counts p h = tt

pub returns-clause-some : goal.returns-clause-some
returns-clause-some c =
    let few : checkers c.loop-point.counts ≤ 15 =
    subst (λ x. checkers x ≤ 15) (sym (found c)) (at_rank_position c.args.index).few in
    (λ _. c.if-index-ge-POSITIONS.false, λ _. c.ok.ensures.variant ∙ c.new.ensures.accepted.1 few)

pub returns-clause-ranked : goal.returns-clause-ranked
returns-clause-ranked c =
    rw c.ok.ensures.value
    (some_from_ok c.new.result (λ x. rank x ≡ c.args.index) c.loop-point.counts
    (ap rank (found c) ∙ rank-at_rank c.args.index c.if-index-ge-POSITIONS.false)
    c.new.ensures.value)

pub returns-clause-value : goal.returns-clause-value
returns-clause-value c =
    rw c.ok.ensures.value
    (some_from_ok c.new.result (λ x. x ≡ at_rank c.args.index) c.loop-point.counts (found c)
    c.new.ensures.value)
