use Rattle.std.proofs.Common.{◌≡◌, ◌<◌, ◌≤◌, List, length, All, Any, subst, slice_index}
use Rattle.race_model.specs.Prelude.{Board, rank}
use Rattle.race_model.proofs.Numbers.Members.{all_of_members}
use Rattle.retrograde.proofs.Best.{best-of_results}
use Rattle.retrograde.proofs.plays.best_result.Goals as goal

pub best_of-requires-clause-held : goal.best_of-requires-clause-held
best_of-requires-clause-held c =
    rw c.as_slice.ensures.value
    (all_of_members (λ z. rank z < length c.args.means.now) c.results.result.items
    (λ z is. c.requires z ((c.results.ensures.members z).0 is)))

pub returns : goal.returns
returns c =
    let same = c.as_slice.ensures.value in
    let r = c.best_of.result in
    let means = c.args.means.now in
    best-of_results means c.args.position.now c.args.roll r c.results.result.items
    c.results.ensures.members
    (subst (λ (xs : List Board). Any (λ z. rank z ≡ r) xs) same c.best_of.ensures.found)
    (subst (λ (xs : List Board). All (λ z. slice_index means r ≤ slice_index means (rank z)) xs)
    same c.best_of.ensures.least)
    (subst
    (λ (xs : List Board).
    All (λ z. slice_index means (rank z) ≡ slice_index means r → r ≤ rank z) xs) same
    c.best_of.ensures.lowest)
