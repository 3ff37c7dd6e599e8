-- The search goes through the points, and the rows are computed.
use Rattle.std.proofs.Common.{refl}
use Rattle.race_model.specs.Prelude.{all_results}
use Rattle.race_model.proofs.Plays.Enumerated.{results_listed, listed_results, in_of_contains, contains_of_in}
use Rattle.race_model.proofs.laws.plays.law_enumerated.Goals as goal

pub returns : goal.returns
returns c = record {
  members =
      λ x v y. (
        λ h. results_listed x v y (in_of_contains y (all_results x v) h),
        λ l. contains_of_in y (all_results x v) (listed_results x v y l),
      );
  two_ways = refl;
  double = refl;
  end = refl;
}
