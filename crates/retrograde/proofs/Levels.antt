-- The ranks of the positions of one pip count.
use Rattle.std.proofs.Common.{◌≡◌, ℕ, suc, ◌+◌, ◌-◌, ◌<◌, ◌≤◌, arith}
use Rattle.race_model.specs.Prelude.{pips, at_rank, first_of, count_to}
use Rattle.race_model.proofs.Ranks.RankOrder.{first_of-rises, first_of-suc}
use Rattle.db_layout.proofs.RecordPlaces.{first_of-next, pips_between}

-- the position of a rank between the first of a pip count and that of the next has that pip count
pub pips-at_rank : (p r : ℕ) → first_of p ≤ r → r < count_to p → pips (at_rank r) ≡ p
pips-at_rank p r from under = pips_between p r from (omega (arith, under, first_of-next p))

-- a level ends where the next begins
pub level-end : (p : ℕ) → first_of p ≤ count_to p
level-end p = omega (arith, first_of-suc p, first_of-rises p (suc p))

-- the next level begins so many ranks later
pub level-all : (p : ℕ) → first_of p + (count_to p - first_of p) ≡ count_to p
level-all p = omega (arith, level-end p)
