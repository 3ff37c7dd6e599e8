-- The better one at each of nine places.
use Rattle.std.proofs.Common.{arith}
use Rattle.least_plays.proofs.Rolls.{each}
use Rattle.least_plays.proofs.means.better_of_each.Goals as goal

pub returns-clause-better : goal.returns-clause-better
returns-clause-better g c =
    each _ 8 c.better.ensures (
    each _ 7 c.better-2.ensures (
    each _ 6 c.better-3.ensures (
    each _ 5 c.better-4.ensures (
    each _ 4 c.better-5.ensures (
    each _ 3 c.better-6.ensures (
    each _ 2 c.better-7.ensures (
    each _ 1 c.better-8.ensures (
    each _ 0 c.better-9.ensures (λ j lt. absurd (omega (arith, lt)))))))))))
