-- The places of the two dice, and the better of their two orders.
use Rattle.std.proofs.Common.{◌≡◌, ◌-◌, ◌<◌, ◌∙◌, [], arith}
use Rattle.race_model.specs.Prelude.{number, roll_at}
use Rattle.race_model.proofs.Plays.Spent.{number_most}
use Rattle.least_plays.specs.declared.starts.Start.{Start}
use Rattle.least_plays.proofs.DicePlaces.{high_at, low_at}
use Rattle.least_plays.proofs.Rolls.{play_held, better_best}
use Rattle.least_plays.proofs.starts.Starts.best_play.Goals.{After-from-low}
use Rattle.least_plays.proofs.starts.Starts.best_play.Goals as goal
use Rattle.least_plays.proofs.starts.Starts.best_play.Given.{Over}

-- where nothing is kept
none : Start
none = record { after = []; plays = [] }

-- what stands in the tables, which are places of dice
module _ (g : Over) (c : After-from-low g) where
  high : c.from-high.result ≡ number (roll_at c.args.index).first - 1
  high = c.from-high.ensures ∙ high_at c.args.index c.requires.index

  low : c.from-low.result ≡ number (roll_at c.args.index).second - 1
  low = c.from-low.ensures ∙ low_at c.args.index c.requires.index

  high-few : c.from-high.result < 6
  high-few = omega (arith, high, number_most (roll_at c.args.index).first)

  low-few : c.from-low.result < 6
  low-few = omega (arith, low, number_most (roll_at c.args.index).second)

pub bounds-self-high : goal.bounds-self-high
bounds-self-high g c = high-few g c

pub bounds-self-low : goal.bounds-self-low
bounds-self-low g c = low-few g c

pub bounds-self-low-2 : goal.bounds-self-low-2
bounds-self-low-2 g c = low-few g (goal.at.bounds-self-low-2 g c).After-from-low

pub bounds-self-high-2 : goal.bounds-self-high-2
bounds-self-high-2 g c = high-few g (goal.at.bounds-self-high-2 g c).After-from-low

pub better-requires-clause-one : goal.better-requires-clause-one
unfolding none
better-requires-clause-one g c =
    let here = (goal.at.better-requires-clause-one g c).After-from-low in
    let roll = roll_at c.args.index in
    play_held (g.M.RankedMeans.mean c.args.means.now) (g.M.RankedMeans.count c.args.means.now)
    c.args.self.now c.requires.starts none roll.first roll.second c.from-high.result
    c.from-low.result (high g here) (low g here)

pub better-requires-clause-other : goal.better-requires-clause-other
unfolding none
better-requires-clause-other g c =
    let here = (goal.at.better-requires-clause-other g c).After-from-low in
    let roll = roll_at c.args.index in
    play_held (g.M.RankedMeans.mean c.args.means.now) (g.M.RankedMeans.count c.args.means.now)
    c.args.self.now c.requires.starts none roll.second roll.first c.from-low.result
    c.from-high.result (low g here) (high g here)

pub returns : goal.returns
unfolding none
returns g c =
    let here = (goal.at.returns g c).After-from-low in
    better_best (g.M.RankedMeans.mean c.args.means.now) (g.M.RankedMeans.count c.args.means.now)
    c.args.self.now c.requires.starts none (roll_at c.args.index) c.from-high.result
    c.from-low.result c.better.result (high g here) (low g here)
    c.better.ensures.either c.better.ensures.one c.better.ensures.other
