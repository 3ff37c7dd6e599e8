use Rattle.std.proofs.Common.{◌+◌, ◌*◌, arith}
use Rattle.std.proofs.lemmas.Nat.{mul-le}
use Rattle.race_model.proofs.Ranks.PositionTotals.{count_to-most}
use Rattle.race_model.proofs.Strategies.Horizons.{most_rolls-most}
use Rattle.retrograde.proofs.Levels.{level-end}
use Rattle.retrograde.proofs.level.shares_of_level.Goals as goal

pub overflow_sub-count_to : goal.overflow_sub-count_to
overflow_sub-count_to c =
    omega (arith, c.first_of.ensures, c.count_to.ensures, level-end c.args.pips)

pub returns-clause-few : goal.returns-clause-few
returns-clause-few c =
    let p = c.args.pips in
    mul-le c.from-count.result (16 * (c.from.result + 1)) 54264 368
    (omega (arith, c.from-count.ensures, c.count_to.ensures, count_to-most p))
    (omega (arith, c.from.ensures, c.most_rolls.ensures, most_rolls-most p c.requires))
