-- What the tests of the records of a file tell, one after another.
use Rattle.std.proofs.Common.{◌≡◌, ◌↔◌, ℕ, ◌<◌, ◌≤◌, List, length, take, refl, arith}
use Rattle.race_model.specs.Prelude.{Board, IsPosition, pips, rank, at_rank, count_to, IsFile, bound_of, Book}
use Rattle.race_model.specs.Prelude.{IsBoardFile, HoldsOnBoard, AsksOnBoard, IsFirstBoardFault, IsLocalOnBoard}
use Rattle.race_model.specs.Prelude.{IsLocalBoard, HeaderTest, IsFirstHeaderFault, IsFirstBoardHeaderFault, IsLocalAt}
use Rattle.race_model.specs.Prelude.{IsLocalDatabase, Test, play_test, least_test, mean_test, spread_test, rank_of}
use Rattle.race_model.specs.Prelude.{Holds, Asks, AsksIn, IsFirstFault, IsFirstFailing, IsFirstInRecord}
use Rattle.race_model.specs.Prelude.{IsRightDatabase}
use Rattle.race_model.proofs.Dice.Throws.{roll_of_index}
use Rattle.race_model.proofs.Ranks.RankOrder.{rank_bound, at_rank_position}
use Rattle.race_model.proofs.Ranks.PositionTotals.{rank-at_rank, count_to-most}
use Rattle.race_model.proofs.FirstFaults.HeaderFacts.{header_fault_refuses, header_of_board}
use Rattle.race_model.proofs.FirstFaults.Questions.{fault_refuses, board_fault_refuses}
use Rattle.race_model.proofs.FirstFaults.InRecord.{asked_rank, first_of_file}
use Rattle.race_model.proofs.RightFiles.Right.{local_of_right}
use Rattle.db_layout.specs.HeaderFaults.{test_of}
use Rattle.db_reader.specs.Telling.{RoseWhere}
use Rattle.certificate.specs.RecordFaults.{IsFirstFaultIn}
use Rattle.certificate.specs.CheckFaults.{Says, IsFirst, IsFirstOnBoard, of_record_at}
use Rattle.certificate.specs.declared.check_fault.CheckFault.{CheckFault}
use Rattle.certificate.specs.declared.check_fault.CheckFault.TheVariants.{Header, Play as PlayAt}
use Rattle.certificate.specs.declared.check_fault.CheckFault.TheVariants.{NotLeast as NotLeastAt, Mean as MeanAt}
use Rattle.certificate.specs.declared.check_fault.CheckFault.TheVariants.{Spread as SpreadAt, Read as ReadAt}
use Rattle.certificate.specs.declared.check_fault.RecordFault.{RecordFault}
use Rattle.certificate.specs.declared.check_fault.RecordFault.TheVariants.{Play, NotLeast, Mean, Spread, Read}

-- the equations of a position are local ones
module _ (local : Board → Type 0) where
  -- the records of lower rank are accepted
  abbrev pub AreAccepted : ℕ → Type 0
  AreAccepted r = (z : Board) → IsPosition z → rank z < r → local z

  -- where all to a bound are accepted, each equation to it holds
  pub accepted-all : (bound r : ℕ) → count_to bound ≤ r → AreAccepted r → (x : Board) →
      IsPosition x → pips x ≤ bound → local x
  accepted-all bound r all accepted x at low =
      let lt = (rank_bound x bound at).1 low in accepted x at (omega arith)

  -- of a book, where by the equations of a position the questions about its record are answered
  -- yes, the first fault of a record is that of the file
  module _ (b : Book) (holds : Test → Type 0)
      (answers : (u : Test) → local (at_rank (rank_of u)) → AsksIn b u → holds u)
      (headed : HeaderTest → Type 0) (file unread : Type 0) (is : file) (r : ℕ)
      (accepted : AreAccepted r) where
    first-here : (t : Test) → IsFirstInRecord (AsksIn b) holds r t →
        file × IsFirstFailing (AsksIn b) holds t
    first-here t first = (
      is,
      first_of_file b holds r t
          (λ u low asks.
          let there = rank-at_rank (rank_of u)
          (omega (arith, asked_rank b u asks, count_to-most b.bound)) in
          answers u (accepted (at_rank (rank_of u)) (at_rank_position (rank_of u)) (omega arith))
          asks)
          first,
    )

    pub fault-of_file : (fault : RecordFault) → IsFirstFaultIn b holds unread r fault →
        Says headed (λ (t : Test). file × IsFirstFailing (AsksIn b) holds t) unread
        (of_record_at r fault)
    fault-of_file (Play roll) first = first-here (play_test r roll) first
    fault-of_file (NotLeast roll) first = first-here (least_test r roll) first
    fault-of_file Mean first = first-here (mean_test r) first
    fault-of_file (Spread k) first = first-here (spread_test r k) first
    fault-of_file Read first = first

-- what each fault of a header or a record refutes, and a failed read, a fault refutes
pub refuted : (headed : HeaderTest → Type 0) (is : Test → Type 0) (unread A : Type 0)
    (fault : CheckFault) → ((t : HeaderTest) → headed t → ¬ A) → ((t : Test) → is t → ¬ A) →
    (fault ≡ ReadAt → unread → ¬ A) → Says headed is unread fault → ¬ A
refuted headed is unread A (Header fault) head tested read said = head (test_of fault) said
refuted headed is unread A (PlayAt r roll) head tested read said = tested (play_test r roll) said
refuted headed is unread A (NotLeastAt r i) head tested read said = tested (least_test r i) said
refuted headed is unread A (MeanAt r) head tested read said = tested (mean_test r) said
refuted headed is unread A (SpreadAt r k) head tested read said = tested (spread_test r k) said
refuted headed is unread A ReadAt head tested read said = read refl said

-- where the equations of a position hold, the questions about its record are answered yes
pub answers : (f : List ℕ) (u : Test) → IsLocalAt f (at_rank (rank_of u)) → Asks f u → Holds f u
answers f (play_test r roll) local asks = local.means.played _ (roll_of_index roll asks.1).0
answers f (least_test r roll) local asks = local.means.best _ (roll_of_index roll asks.1).0
answers f (mean_test r) local asks = local.means.mean_is
answers f (spread_test r k) local asks = local.shares k asks.1

-- where the equations of a position hold, the questions about its record in a board file are
-- answered yes
pub board-answers : (f : List ℕ) (u : Test) → IsLocalOnBoard f (at_rank (rank_of u)) →
    AsksOnBoard f u → HoldsOnBoard f u
board-answers f (play_test r roll) local asks =
    local.equations.means.played _ (roll_of_index roll asks.1).0
board-answers f (least_test r roll) local asks =
    local.equations.means.best _ (roll_of_index roll asks.1).0
board-answers f (mean_test r) local asks = (local.written.mean, local.equations.means.mean_is)
board-answers f (spread_test r k) local asks =
    (local.written.counts k asks.1, local.equations.shares k asks.1)

-- a fault of a record is a failed read exactly where it is one as a fault of the file
pub fault-read : (r : ℕ) (fault : RecordFault) → (of_record_at r fault ≡ ReadAt) ↔ (fault ≡ Read)
fault-read r (Play roll) = (λ e. cc, λ e. cc)
fault-read r (NotLeast roll) = (λ e. cc, λ e. cc)
fault-read r Mean = (λ e. cc, λ e. cc)
fault-read r (Spread k) = (λ e. cc, λ e. cc)
fault-read r Read = (λ _. refl, λ _. refl)

-- where all are accepted the file is locally right
pub local-of_all : (f : List ℕ) (r : ℕ) → IsFile f → count_to (bound_of f) ≤ r
    → AreAccepted (IsLocalAt f) r → IsLocalDatabase f
local-of_all f r file all accepted = record {
  file = file;
  written = λ x at low. tt;
  at_each = accepted-all (IsLocalAt f) (bound_of f) r all accepted;
}

-- where all records are accepted a board file is locally right
pub board-of_all : (f : List ℕ) (r : ℕ) → IsBoardFile f → count_to (bound_of f) ≤ r
    → AreAccepted (IsLocalOnBoard f) r → IsLocalBoard f
board-of_all f r file all accepted =
    let here = accepted-all (IsLocalOnBoard f) (bound_of f) r all accepted in
    record {
      file = file;
      written = λ x at low. (here x at low).written;
      at_each = λ x at low. (here x at low).equations;
    }

-- a right file is refused by no fault but one of reading, and by that only where the count of
-- failures rose
pub none-of_right : (f : List ℕ) (before now : ℕ) (fault : CheckFault) → IsFirst f fault
    → RoseWhere (fault ≡ ReadAt) before now → now ≡ before → ¬ IsRightDatabase f
none-of_right f before now fault first cause same =
    refuted (IsFirstHeaderFault (take 32 f) (length f))
    (λ (t : Test). IsFile f × IsFirstFault (Asks f) f t) (Unit {0}) (IsRightDatabase f) fault
    (λ t is right. header_fault_refuses f t is right.file)
    (λ t is right. fault_refuses f t is.1 (local_of_right f right))
    (λ read _ right. absurd (omega (arith, cause.rose read, same)))
    first

-- a fault of a board file refutes its equations
pub none-of_local : (f : List ℕ) (fault : CheckFault) → IsFirstOnBoard f fault → ¬ IsLocalBoard f
none-of_local f fault =
    refuted (IsFirstBoardHeaderFault f) (λ (t : Test). IsBoardFile f × IsFirstBoardFault f t) ⊥
    (IsLocalBoard f) fault
    (λ t is local. is.fails (header_of_board f local.file t))
    (λ t is local. board_fault_refuses f t is.1 local)
    (λ _ never. absurd never)
