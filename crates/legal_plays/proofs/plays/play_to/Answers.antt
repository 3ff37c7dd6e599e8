use Rattle.std.proofs.Common.{IsSome, sym, eqb-true}
use Rattle.std.proofs.lemmas.Bool.{eqb-false}
use Rattle.legal_plays.proofs.LegalLemmas.{results_double, results_apart}
use Rattle.legal_plays.proofs.PlayToLemmas.{found_run, first_of_smaller, second_only}
use Rattle.legal_plays.proofs.plays.play_to.Goals as goal

pub returns-then-eq-clause-legal : goal.returns-then-eq-clause-legal
returns-then-eq-clause-legal c =
    results_double c.args.position.now c.args.roll _ _ c.args.target.now _
    c.high-high.ensures.value c.low-low.ensures.value (eqb-true _ _ (sym c.if-eq.ensures))
    (found_run _ _ _ c.search.result c.search.ensures.first c.search.ensures.none)

pub returns-clause-first : goal.returns-clause-first
returns-clause-first c =
    first_of_smaller _ _ _ _ _ c.search-3.result c.high-high.ensures.value c.low-low.ensures.value
    (eqb-false _ _ (sym c.if-eq.ensures)) c.in_default.ensures.none c.search-3.ensures.first

pub returns-clause-legal : goal.returns-clause-legal
returns-clause-legal c =
    results_apart c.args.position.now c.args.roll _ _ c.args.target.now _
    (IsSome c.search-2.result) _ c.high-high.ensures.value c.low-low.ensures.value
    (eqb-false _ _ (sym c.if-eq.ensures))
    (found_run _ _ _ c.search-2.result c.search-2.ensures.first c.search-2.ensures.none)
    (found_run _ _ _ c.search-3.result c.search-3.ensures.first c.search-3.ensures.none)
    (second_only c.search-2.result _ c.in_default.is)
