-- The means that a database records, and why one is not read.
use Rattle.std.proofs.Common.{◌≡◌, ℕ, ◌<◌, ◌≤◌, ◌↔◌, List, Result, Err, refl, ap, arith}
use Rattle.race_model.specs.Prelude.{Board, IsPosition, pips, Throw, bound_of, mean, mean_at, play, recorded}
use Rattle.race_model.specs.Prelude.{IsRightDatabase}
use Rattle.certificate.specs.declared.query_fault.QueryFault.{QueryFault}
use Rattle.certificate.specs.declared.query_fault.QueryFault.TheVariants.{OverBound, Finished, NotLegal, Memory, Read}
use Rattle.certificate.specs.QueryFaults.{RefusesNumbers}

-- the mean after the recorded play is that of the position that it leads to
pub mean_after : (f : List ℕ) (x : Board) (v : Throw) → IsRightDatabase f → IsPosition x
    → pips x ≤ bound_of f
    → mean f (recorded f x v) ≡ mean_at f (play f x v)
mean_after f x v right is within = ap (mean_at f) ((right.book x is within).played v).ranked

-- where the position has at most so many pips, a refusal is a read that failed
pub must_be_read : {T : Type 0} (r : Result T QueryFault) (bound pips : ℕ) (fault : QueryFault)
    → r ≡ Err fault → (r ≡ Err OverBound) ↔ (bound < pips) → pips ≤ bound → RefusesNumbers fault
    → fault ≡ Read
must_be_read r bound pips OverBound e over low refuses = absurd (omega (arith, over.0 e))
must_be_read r bound pips Finished e over low refuses = absurd refuses
must_be_read r bound pips NotLegal e over low refuses = absurd refuses
must_be_read r bound pips Memory e over low refuses = absurd refuses
must_be_read r bound pips Read e over low refuses = refl
