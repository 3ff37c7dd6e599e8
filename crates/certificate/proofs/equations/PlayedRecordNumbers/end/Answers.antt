use Rattle.std.proofs.Common.{◌≤◌, arith, w8}
use Rattle.std.proofs.Math.Facts.{Fits-of_lt}
use Rattle.race_model.specs.Prelude.{Board, IsPosition, pips, most_rolls}
use Rattle.race_model.proofs.Ranks.RankOrder.{pips-range}
use Rattle.race_model.proofs.Strategies.Horizons.{most_rolls-board}
use Rattle.certificate.proofs.BoardNumberTests.{untold-holds}
use Rattle.certificate.proofs.equations.PlayedRecordNumbers.end.Goals as goal

-- how many throws a position takes at most
most : (x : Board) → IsPosition x → most_rolls (pips x) ≤ 33
most x at = most_rolls-board (pips x) (pips-range x at)

pub overflow_add-result : goal.overflow_add-result
overflow_add-result c =
    let few = most c.args.self.now.position.now c.requires.0.position in
    Fits-of_lt {w = w8} (omega (arith, few, c.requires.2))

pub returns-clause-few : goal.returns-clause-few
returns-clause-few c =
    let few = most c.args.self.now.position.now c.requires.0.position in
    omega (arith, few, c.requires.2)

pub returns-clause-beyond : goal.returns-clause-beyond
returns-clause-beyond c k beyond few =
    untold-holds c.requires.0 k few (λ _. omega (arith, beyond, c.requires.2))
