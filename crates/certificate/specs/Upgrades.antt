-- What an upgrade writes.
use Rattle.std.specs.Prelude.{ℕ, List, Option}
use Rattle.std.specs.Io.KnownBytes.{Appends, Keeps}
use Rattle.race_model.specs.Prelude.{pips, at_rank, compact, record_at, mean_of, IsUpgrade}
use Rattle.db_layout.specs.Records.{record_of}
use Rattle.db_layout.specs.Writes.{AppendsPart}
use Rattle.certificate.specs.RecordNumbers.{plays_of, shares_of}
use Rattle.certificate.specs.declared.upgrade_fault.UpgradeFault.{UpgradeFault}
use Rattle.certificate.specs.declared.upgrade_fault.UpgradeFault.TheVariants.{NotOld, Read, Write}

-- the upgrade of a file was written, and nothing else
abbrev pub WritesUpgrade : List ℕ → Option (List ℕ) → Option (List ℕ) → Type 0
WritesUpgrade f old new = (g : List ℕ) × (IsUpgrade f g) × (Appends old new g)

-- a prefix of the upgrade of a file was written
abbrev pub WritesUpgradePart : List ℕ → Option (List ℕ) → Option (List ℕ) → Type 0
WritesUpgradePart f old new = (g : List ℕ) × (IsUpgrade f g) × (AppendsPart old new g)

-- what was written where an upgrade was refused: nothing, or a prefix
abbrev pub IsUpgradeRefused : List ℕ → Option (List ℕ) → Option (List ℕ) → UpgradeFault → Type 0
IsUpgradeRefused f old new NotOld = Keeps old new
IsUpgradeRefused f old new Read = WritesUpgradePart f old new
IsUpgradeRefused f old new Write = WritesUpgradePart f old new

-- a fault that comes while records are written
abbrev pub IsLater : UpgradeFault → Type 0
IsLater NotOld = ⊥
IsLater Read = Unit {0}
IsLater Write = Unit {0}

-- the record of a rank of a file, as a file of version 2 stores it
unfoldable pub compact_record : List ℕ → ℕ → List ℕ
compact_record f r =
    record_of compact (pips (at_rank r)) (mean_of (record_at f r)) (plays_of (record_at f r))
    (shares_of (record_at f r))
