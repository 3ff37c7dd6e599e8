-- What a refusal of the checker means: the first fault of the file, in the checker's order.
use Rattle.std.specs.Prelude.{ℕ, List, length, take}
use Rattle.race_model.specs.Prelude.{IsFile, IsBoardFile, HeaderTest, IsFirstHeaderFault, IsFirstBoardHeaderFault, Test}
use Rattle.race_model.specs.Prelude.{play_test, least_test, mean_test, spread_test, Asks, IsFirstFault}
use Rattle.race_model.specs.Prelude.{IsFirstBoardFault, header_line, test_line, read_line}
use Rattle.db_layout.specs.HeaderFaults.{test_of}
use Rattle.certificate.specs.declared.check_fault.CheckFault.{CheckFault}
use Rattle.certificate.specs.declared.check_fault.CheckFault.TheVariants.{Header, Play, NotLeast, Mean, Spread, Read}
use Rattle.certificate.specs.declared.check_fault.RecordFault.{RecordFault}
use Rattle.certificate.specs.declared.check_fault.RecordFault.TheVariants.{Play as PlayOf, NotLeast as NotLeastOf}
use Rattle.certificate.specs.declared.check_fault.RecordFault.TheVariants.{Mean as MeanOf, Spread as SpreadOf}
use Rattle.certificate.specs.declared.check_fault.RecordFault.TheVariants.{Read as ReadOf}

-- what a fault of a file says: something of a question about its header, of one about a record, or
-- of a failed read
abbrev pub Says : (HeaderTest → Type 0) → (Test → Type 0) → Type 0 → CheckFault → Type 0
Says IsOfHeader Is Unread (Header fault) = IsOfHeader (test_of fault)
Says IsOfHeader Is Unread (Play rank roll) = Is (play_test rank roll)
Says IsOfHeader Is Unread (NotLeast rank roll) = Is (least_test rank roll)
Says IsOfHeader Is Unread (Mean rank) = Is (mean_test rank)
Says IsOfHeader Is Unread (Spread rank k) = Is (spread_test rank k)
Says IsOfHeader Is Unread Read = Unread

-- the fault is the first of the file; nothing is said of it where a read failed
abbrev pub IsFirst : List ℕ → CheckFault → Type 0
IsFirst f =
    Says (IsFirstHeaderFault (take 32 f) (length f))
    (λ test. IsFile f × IsFirstFault (Asks f) f test) (Unit {0})

-- the fault is the first of a board file, which lies in memory, so that no read fails
abbrev pub IsFirstOnBoard : List ℕ → CheckFault → Type 0
IsFirstOnBoard f =
    Says (IsFirstBoardHeaderFault f) (λ test. IsBoardFile f × IsFirstBoardFault f test) ⊥

-- a fault of the record of a rank, as a fault of the file
abbrev pub of_record_at : ℕ → RecordFault → CheckFault
of_record_at rank (PlayOf roll) = Play rank roll
of_record_at rank (NotLeastOf roll) = NotLeast rank roll
of_record_at rank MeanOf = Mean rank
of_record_at rank (SpreadOf k) = Spread rank k
of_record_at rank ReadOf = Read

-- the text of a fault
abbrev pub line_of : CheckFault → List ℕ
line_of (Header fault) = header_line (test_of fault)
line_of (Play rank roll) = test_line (play_test rank roll)
line_of (NotLeast rank roll) = test_line (least_test rank roll)
line_of (Mean rank) = test_line (mean_test rank)
line_of (Spread rank k) = test_line (spread_test rank k)
line_of Read = read_line
