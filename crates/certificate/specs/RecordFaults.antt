-- What a fault of a record means.
use Rattle.std.specs.Prelude.{ℕ, List}
use Rattle.race_model.specs.Prelude.{Book, book_of, board_book, HoldsOnBoard, Test, play_test, least_test, mean_test}
use Rattle.race_model.specs.Prelude.{spread_test, Holds, AsksIn, IsFirstInRecord}
use Rattle.certificate.specs.RecordNumbers.{IsFirstWrong}
use Rattle.least_plays.specs.declared.recorded.PlayFault.{PlayFault}
use Rattle.least_plays.specs.declared.recorded.PlayFault.TheVariants.{NotLegal, NotLeast as NotLeastPlay}
use Rattle.certificate.specs.declared.check_fault.RecordFault.{RecordFault}
use Rattle.certificate.specs.declared.check_fault.RecordFault.TheVariants.{Play, NotLeast, Mean, Spread, Read}

-- of the questions about the record of a rank this fault answers the first whose answer is no, by
-- the book of a file and what holds where an answer is yes; of a failed read this is said
abbrev pub IsFirstFaultIn : Book → (Test → Type 0) → Type 0 → ℕ → RecordFault → Type 0
IsFirstFaultIn b holds unread r (Play roll) = IsFirstInRecord (AsksIn b) holds r (play_test r roll)
IsFirstFaultIn b holds unread r (NotLeast roll) =
    IsFirstInRecord (AsksIn b) holds r (least_test r roll)
IsFirstFaultIn b holds unread r Mean = IsFirstInRecord (AsksIn b) holds r (mean_test r)
IsFirstFaultIn b holds unread r (Spread k) = IsFirstInRecord (AsksIn b) holds r (spread_test r k)
IsFirstFaultIn b holds unread r Read = unread

-- the fault is the first of the record of a rank of a database
abbrev pub IsFirstFaultAt : List ℕ → ℕ → RecordFault → Type 0
IsFirstFaultAt f = IsFirstFaultIn (book_of f) (Holds f) (Unit {0})

-- the fault is the first of the record of a rank of a board file, which lies in memory, so that no
-- read fails
abbrev pub IsFirstFaultOnBoardAt : List ℕ → ℕ → RecordFault → Type 0
IsFirstFaultOnBoardAt f = IsFirstFaultIn (board_book f) (HoldsOnBoard f) ⊥

-- a refused play of a roll, as a fault of the record
abbrev pub of_refused : ℕ → PlayFault → RecordFault
of_refused roll NotLegal = Play roll
of_refused roll NotLeastPlay = NotLeast roll

-- the fault is the first of the mean of a record and its shares to so many rolls
abbrev pub IsNumberFault : Type 0 → (ℕ → Type 0) → ℕ → RecordFault → Type 0
IsNumberFault mean share most (Play roll) = ⊥
IsNumberFault mean share most (NotLeast roll) = ⊥
IsNumberFault mean share most Mean = ¬ mean
IsNumberFault mean share most (Spread k) = IsFirstWrong mean share most k
IsNumberFault mean share most Read = ⊥
