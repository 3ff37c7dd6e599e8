use Rattle.std.proofs.Common.{[], arith}
use Rattle.ranking.specs.Tables.{used, IsRow}
use Rattle.ranking.proofs.Filling.{partway_start, added_at, sum_fits, partway_more}
use Rattle.ranking.proofs.point_table.PointTable.add_point.Goals as goal
use Rattle.ranking.proofs.point_table.PointTable.add_point.Goals.{After-shifted-more}

pub loop-checkers-init : goal.loop-checkers-init
loop-checkers-init c =
    partway_start c.args.point c.args.self.now.rows c.args.occupied.now.rows c.requires.last
    c.requires.above.long (omega arith) c.requires.above.each

-- the row that is added counts the lists with a checker on the point
more : (c : After-shifted-more) →
    IsRow (used c.args.point c.loop-checkers.checkers) c.shifted-more.result
more c =
    added_at _ _ c.loop-checkers.self.rows c.loop-checkers.occupied.rows (record { cells = [] }) _
    c.requires.last c.loop-checkers.auto.checkers c.loop-checkers-test.true
    c.loop-checkers.invariant c.shifted-more.ensures

pub plus-requires : goal.plus-requires
plus-requires c =
    λ m low.
    sum_fits c.args.point c.loop-checkers.checkers m _ _ c.requires.first c.requires.last
    (omega arith)
    (c.loop-checkers.invariant.rest c.loop-checkers.checkers _ (omega arith) (omega arith))
    (more (goal.at.plus-requires c).After-shifted-more) low

pub loop-checkers-preserved : goal.loop-checkers-preserved
loop-checkers-preserved c =
    partway_more _ _ _ _ (record { cells = [] }) _ _ c.requires.last c.loop-checkers-test.true
    c.loop-checkers.invariant (more (goal.at.loop-checkers-preserved c).After-shifted-more)
    c.plus.ensures
