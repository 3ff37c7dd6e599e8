-- Each of the 21 rolls.
use Rattle.std.proofs.Common.{arith}
use Rattle.least_plays.proofs.Rolls.{each}
use Rattle.least_plays.proofs.starts.Starts.best_plays.Goals as goal

pub returns-clause-best : goal.returns-clause-best
returns-clause-best g c =
    each _ 20 c.best_play.ensures (
    each _ 19 c.best_play-2.ensures (
    each _ 18 c.best_play-3.ensures (
    each _ 17 c.best_play-4.ensures (
    each _ 16 c.best_play-5.ensures (
    each _ 15 c.best_play-6.ensures (
    each _ 14 c.best_play-7.ensures (
    each _ 13 c.best_play-8.ensures (
    each _ 12 c.best_play-9.ensures (
    each _ 11 c.best_play-10.ensures (
    each _ 10 c.best_play-11.ensures (
    each _ 9 c.best_play-12.ensures (
    each _ 8 c.best_play-13.ensures (
    each _ 7 c.best_play-14.ensures (
    each _ 6 c.best_play-15.ensures (
    each _ 5 c.best_play-16.ensures (
    each _ 4 c.best_play-17.ensures (
    each _ 3 c.best_play-18.ensures (
    each _ 2 c.best_play-19.ensures (
    each _ 1 c.best_play-20.ensures (
    each _ 0 c.best_play-21.ensures (λ j lt. absurd (omega (arith, lt)))))))))))))))))))))))
