-- How many bytes were read where the reads have run out.
use Rattle.std.specs.Prelude.{ℕ, ◌^◌, ◌≤◌, min, List, length, Option, Some, ⊤}
use Rattle.std.specs.Io.KnownBytes.{Consumes}
use Rattle.epc_query.specs.declared.run_fault.RunFault.{RunFault}
use Rattle.epc_query.specs.declared.run_fault.RunFault.TheVariants.{Read, Write, Table, Memory, Turns}

-- why a line that was read stops the answers: no read of the input is made for it
abbrev pub IsLineFault : RunFault → Type 0
IsLineFault Read = ⊥
IsLineFault Write = ⊤
IsLineFault Table = ⊤
IsLineFault Memory = ⊤
IsLineFault Turns = ⊥

-- where the reads have run out, each of them gave a byte: so many bytes of the input were read as
-- reads were allowed, of which there are at most 2 ^ 40
abbrev pub HasUsed : ℕ → List ℕ → Option (List ℕ) → RunFault → Type 0
HasUsed turns input left Read = ⊤
HasUsed turns input left Write = ⊤
HasUsed turns input left Table = ⊤
HasUsed turns input left Memory = ⊤
HasUsed turns input left Turns =
    (done : List ℕ) × Consumes (Some input) left done × (min turns (2 ^ 40) ≤ length done)
