-- What a refused query means.
use Rattle.certificate.specs.declared.query_fault.QueryFault.{QueryFault}
use Rattle.certificate.specs.declared.query_fault.QueryFault.TheVariants.{OverBound, Finished, NotLegal, Memory, Read}

-- the faults that can come where numbers of a position are asked for
abbrev pub RefusesNumbers : QueryFault → Type 0
RefusesNumbers OverBound = Unit {0}
RefusesNumbers Finished = ⊥
RefusesNumbers NotLegal = ⊥
RefusesNumbers Memory = ⊥
RefusesNumbers Read = Unit {0}

-- the faults that can come where a play is asked for
abbrev pub RefusesPlays : QueryFault → Type 0
RefusesPlays OverBound = Unit {0}
RefusesPlays Finished = Unit {0}
RefusesPlays NotLegal = ⊥
RefusesPlays Memory = ⊥
RefusesPlays Read = Unit {0}
