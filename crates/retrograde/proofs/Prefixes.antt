-- What was written of the built file, part by part.
use Rattle.std.proofs.Common.{◌≡◌, ℕ, ◌-◌, ◌≤◌, List, [], Option, Result, Ok, Err, sym, subst, arith}
use Rattle.std.specs.Io.KnownBytes.{Appends}
use Rattle.std.specs.Result.{IsErrAnd}
use Rattle.race_model.specs.Prelude.{first_of, count_to, Version, greatest_bound, header}
use Rattle.race_model.proofs.Ranks.RankOrder.{count_to-rises}
use Rattle.db_layout.specs.WholeFiles.{records_from}
use Rattle.db_layout.specs.Writes.{AppendsPart}
use Rattle.db_layout.proofs.Prefixes.{nothing-part, header-part, ranks-part, more-part, more-written}
use Rattle.retrograde.specs.AllRecords.{AllRecords, bytes_of_rank}
use Rattle.retrograde.specs.BuiltBytes.{built_to, built_file, WritesBuilt, WritesPart, IsRefusedBy, Builds}
use Rattle.retrograde.specs.declared.build_fault.BuildFault.{BuildFault}
use Rattle.retrograde.proofs.BuiltFiles.{is-built}
use Rattle.retrograde.proofs.Levels.{level-end, level-all}

-- a build that a fault ends has written what that fault says
pub refused_build : {T : Type 0} (version : Version) (bound : ℕ) (old new : Option (List ℕ))
    (done : Result T BuildFault) (fault : BuildFault) → IsErrAnd done (λ is. is ≡ fault) →
    IsRefusedBy version bound old new fault → Builds version bound old new done
refused_build version bound old new (Ok x) fault is refused = absurd is
refused_build version bound old new (Err is) fault same refused =
    subst (IsRefusedBy version bound old new) (sym same) refused

-- the built file of a version and a bound
module _ (version : Version) (full : AllRecords) (bound : ℕ)
    (low : bound ≤ greatest_bound version) where
  -- a prefix of the built file
  part-refused : (old new : Option (List ℕ)) →
      AppendsPart old new (built_file version full bound) → WritesPart version bound old new
  part-refused old new part =
      (built_file version full bound, is-built version full bound low, part)

  -- nothing was written
  pub nothing-written : (old new : Option (List ℕ)) → Appends old new [] →
      WritesPart version bound old new
  nothing-written old new none =
      part-refused old new (nothing-part old new (built_file version full bound) none)

  -- a prefix of the header
  pub header-written : (old new : Option (List ℕ)) → AppendsPart old new (header version bound) →
      WritesPart version bound old new
  header-written old new part =
      part-refused old new
      (header-part version bound (bytes_of_rank version full) (count_to bound) old new part)

  -- the file up to a rank
  pub ranks-written : (old new : Option (List ℕ)) (n : ℕ) → n ≤ count_to bound →
      Appends old new (built_to version full bound n)
      → WritesPart version bound old new
  ranks-written old new n le all =
      part-refused old new
      (ranks-part version bound (bytes_of_rank version full) (count_to bound) old new n le all)

  -- the file up to a rank and a prefix of the level after it
  pub level-part : (old mid new : Option (List ℕ)) (p : ℕ) → p ≤ bound →
      Appends old mid (built_to version full bound (first_of p)) →
      AppendsPart mid new
      (records_from (bytes_of_rank version full) (first_of p) (count_to p - first_of p))
      → WritesPart version bound old new
  level-part old mid new p le first part =
      part-refused old new
      (more-part version bound (bytes_of_rank version full) (count_to bound) old mid new
      (first_of p) (count_to p - first_of p)
      (omega (arith, level-end p, count_to-rises p bound le)) first part)

  -- the file up to a rank and the whole level after it
  pub level-written : (old mid new : Option (List ℕ)) (p : ℕ) →
      Appends old mid (built_to version full bound (first_of p)) →
      Appends mid new
      (records_from (bytes_of_rank version full) (first_of p) (count_to p - first_of p))
      → Appends old new (built_to version full bound (count_to p))
  level-written old mid new p first more =
      subst (λ (n : ℕ). Appends old new (built_to version full bound n)) (level-all p)
      (more-written version bound (bytes_of_rank version full) old mid new (first_of p)
      (count_to p - first_of p) first more)

  -- the whole file, and nothing else
  pub all-written : (old new : Option (List ℕ)) (n : ℕ) → n ≡ count_to bound →
      Appends old new (built_to version full bound n)
      → WritesBuilt version bound old new
  all-written old new n e all = (
    built_file version full bound,
    is-built version full bound low,
    subst (λ (m : ℕ). Appends old new (built_to version full bound m)) e all,
  )
