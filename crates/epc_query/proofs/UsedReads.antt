-- How many bytes were read where the reads have run out.
use Rattle.std.proofs.Common.{ℕ, ◌+◌, ◌<◌, ◌≤◌, List, ◌++◌, length, take, Option, arith, length-append}
use Rattle.std.proofs.lemmas.List.{length-take}
use Rattle.epc_query.specs.declared.run_fault.RunFault.{RunFault}
use Rattle.epc_query.specs.declared.run_fault.RunFault.TheVariants.{Read, Write, Table, Memory, Turns}
use Rattle.epc_query.specs.UsedReads.{HasUsed, IsLineFault}

-- where a line stopped the answers, the reads did not run out
pub used_at : (turns : ℕ) (input : List ℕ) (left : Option (List ℕ)) (fault : RunFault)
    → IsLineFault fault → HasUsed turns input left fault
used_at turns input left Read h = tt
used_at turns input left Write h = tt
used_at turns input left Table h = tt
used_at turns input left Memory h = tt
used_at turns input left Turns h = absurd h

-- a read that gives a byte makes what was read longer
pub longer : (done buf : List ℕ) (n turn : ℕ) → 0 < n → n ≤ length buf → turn ≤ length done
    → turn + 1 ≤ length (done ++ take n buf)
longer done buf n turn some within h =
    omega (arith, length-append done (take n buf), length-take n buf, some, within, h)
