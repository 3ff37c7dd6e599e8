-- The opening of a file of any version: its first fault, and what a refusal leaves.
use Rattle.std.specs.Prelude.{◌≡◌, ℕ}
use Rattle.db_layout.specs.declared.header.HeaderFault.TheVariants.{BadVersion, TooShort, BadMagic, BadBound, BadCount}
use Rattle.db_layout.specs.declared.header.HeaderFault.TheVariants.{BadRecordBytes, BadReserved, BadLength}
use Rattle.certificate.specs.declared.check_fault.CheckFault.{CheckFault}
use Rattle.certificate.specs.declared.check_fault.CheckFault.TheVariants.{Header, Play, NotLeast, Mean, Spread, Read}
use Rattle.bearoff_c.specs.declared.kept.File.{File}

-- but for whether it is open the file is as it was
pub record IsElseSameFile (old new : File) : Type 0 where
  pub bytes : new.bytes.now ≡ old.bytes.now
  pub bound : new.bound ≡ old.bound
  pub version : new.version ≡ old.version
  pub ranks : new.ranks ≡ old.ranks

-- the status that the library for C gives a fault of a file
abbrev pub fault_status : CheckFault → ℕ
fault_status (Header TooShort) = 16
fault_status (Header BadMagic) = 17
fault_status (Header BadVersion) = 18
fault_status (Header BadBound) = 19
fault_status (Header BadCount) = 20
fault_status (Header BadRecordBytes) = 21
fault_status (Header BadReserved) = 22
fault_status (Header BadLength) = 23
fault_status (Play rank roll) = 24
fault_status (NotLeast rank roll) = 25
fault_status (Mean rank) = 26
fault_status (Spread rank k) = 27
fault_status Read = 28
