use Rattle.std.proofs.Common.{◌≡◌, ◌*◌, ◌≤◌}
use Rattle.race_model.specs.Prelude.{mean_at, whole}
use Rattle.db_reader.specs.Telling.{WhereTold}
use Rattle.certificate.specs.Databases.{Stays}
use Rattle.epc_query.specs.LevelMeans.{AreMeansOf}
use Rattle.epc_query.proofs.pages.levels.means_of.Given as goal

-- the means of the ranks so far
abbrev pub invariant-loop-rank : goal.invariant-loop-rank
invariant-loop-rank g l = record {
  means : WhereTold l.initial.checked.told
      (λ file. AreMeansOf (mean_at file) l.fn.first l.rank l.means.least l.means.greatest);
  low : l.means.least ≤ 22 * whole;
  high : l.means.greatest ≤ 22 * whole;
  fresh : l.fn.first ≡ l.rank → (l.means.least ≡ 22 * whole) × (l.means.greatest ≡ 0);
  stays : Stays l.initial.checked l.checked ⊥;
}
