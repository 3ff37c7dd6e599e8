-- What was written of the replies to the lines of an input.
use Rattle.std.specs.Prelude.{◌≡◌, ℕ, ◌<◌, ◌≤◌, List, [], ◌∷◌, ◌++◌, length, take, slice_index}
use Rattle.std.specs.Prelude.{slice_index_or, Option, Some}
use Rattle.std.specs.Io.KnownBytes.{Appends, Consumes}
use Rattle.race_model.specs.Prelude.{Book, Query, IsAccepted, IsReplyIn, rest_of, whole_lines, lines_of, HasNoFeed}
use Rattle.db_layout.specs.Writes.{AppendsPart}
use Rattle.epc_query.specs.Faults.{AsksMoves, AsksRecords}
use Rattle.epc_query.specs.declared.run_fault.RunFault.{RunFault}
use Rattle.epc_query.specs.declared.run_fault.RunFault.TheVariants.{Read, Write, Table, Memory, Turns}

-- the text is the replies to these lines, one after another
abbrev pub AreReplies : Book → List (List ℕ) → List ℕ → Type 0
AreReplies f [] text = text ≡ []
AreReplies f (line ∷ lines) text =
    (reply rest : List ℕ) × IsReplyIn f line reply × AreReplies f lines rest
    × (text ≡ reply ++ rest)

-- the writer's known bytes have grown by the replies to these lines, and by nothing else
pub record HasReplies (f : Book) (lines : List (List ℕ))
    (old new : Option (List ℕ)) : Type 0 where
  pub text : List ℕ
  pub replies : AreReplies f lines text
  pub written : Appends old new text

-- the writer's known bytes have grown by a prefix of the replies to these lines
pub record HasPart (f : Book) (lines : List (List ℕ)) (old new : Option (List ℕ)) : Type 0 where
  pub text : List ℕ
  pub replies : AreReplies f lines text
  pub written : AppendsPart old new text

-- the line asks for a list of moves, and is not refused
abbrev pub IsMovesLine : Book → List ℕ → Type 0
IsMovesLine f line = (q : Query) × IsAccepted f.bound line q × AsksMoves q

-- the line asks for what records hold, and is not refused
abbrev pub IsRecordsLine : Book → List ℕ → Type 0
IsRecordsLine f line = (q : Query) × IsAccepted f.bound line q × AsksRecords q

-- the answers to these lines stopped so: at a fault of the table, or for want of memory, the
-- replies to the lines before one of them were written, which asks for it; at a fault of the
-- writer, a prefix of the replies to some of the first
abbrev pub IsStoppedAt : Book → List (List ℕ) → Option (List ℕ) → Option (List ℕ) → RunFault
    → Type 0
IsStoppedAt f lines old new Read = ⊥
IsStoppedAt f lines old new Write = (n : ℕ) × (n ≤ length lines) × HasPart f (take n lines) old new
IsStoppedAt f lines old new Table =
    (n : ℕ) × (n < length lines) × IsRecordsLine f (slice_index_or lines n [])
    × HasReplies f (take n lines) old new
IsStoppedAt f lines old new Memory =
    (n : ℕ) × (n < length lines) × IsMovesLine f (slice_index_or lines n [])
    × HasReplies f (take n lines) old new
IsStoppedAt f lines old new Turns = ⊥

-- the replies to the whole lines of what was read of the input were written
abbrev pub HasAnswered : Book → List ℕ → Option (List ℕ) → Option (List ℕ) → Option (List ℕ)
    → Type 0
HasAnswered f input left old new =
    (done : List ℕ) × Consumes (Some input) left done × HasReplies f (whole_lines done) old new

-- the answers to the lines of an input stopped so
abbrev pub IsRunStopped : Book → List ℕ → Option (List ℕ) → Option (List ℕ) → Option (List ℕ)
    → RunFault → Type 0
IsRunStopped f input left old new Read = HasAnswered f input left old new
IsRunStopped f input left old new Write = IsStoppedAt f (lines_of input) old new Write
IsRunStopped f input left old new Table = IsStoppedAt f (lines_of input) old new Table
IsRunStopped f input left old new Memory = IsStoppedAt f (lines_of input) old new Memory
IsRunStopped f input left old new Turns = HasAnswered f input left old new

-- the first line feed of some bytes stands at a place
pub record IsFirstFeed (bytes : List ℕ) (place : ℕ) : Type 0 where
  pub within : place < length bytes
  pub before : HasNoFeed (take place bytes)
  pub feed : slice_index bytes place ≡ 10

-- the replies to the whole lines of these bytes were written, and the first bytes of the rest are
-- kept
pub record IsAnswered (f : Book) (done : List ℕ) (old new : Option (List ℕ))
    (kept : List ℕ) : Type 0 where
  pub replies : HasReplies f (whole_lines done) old new
  pub held : kept ≡ take 130 (rest_of done)
