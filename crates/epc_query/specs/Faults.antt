-- When a query is refused, by a database of a bound.
use Rattle.std.specs.Prelude.{ℕ, ◌<◌, ◌≤◌, List}
use Rattle.race_model.specs.Prelude.{pips, Query, mean_query, dist_query, play_query, loss_query, moves_query}
use Rattle.race_model.specs.Prelude.{rank_query, subject, AsksOfFinished, HasResult, IsRefused, IsAccepted}
use Rattle.certificate.specs.declared.query_fault.QueryFault.{QueryFault}
use Rattle.certificate.specs.declared.query_fault.QueryFault.TheVariants.{OverBound, Finished, NotLegal, Memory, Read}
use Rattle.epc_query.specs.declared.pages.answers.Stop.{Stop}
use Rattle.epc_query.specs.declared.pages.answers.Stop.TheVariants.{Memory as NoMemory, Read as NoRead}
use Rattle.query_text.specs.declared.reply.Reply.{Reply}
use Rattle.query_text.specs.declared.reply.Reply.TheVariants.{Mean, Dist, Play, Loss, Moves, Rank, Refused}
use Rattle.query_text.specs.Readings.{IsAnswerable}
use Rattle.query_text.specs.Texts.{why}

-- the query asks for a list of moves
abbrev pub AsksMoves : Query → Type 0
AsksMoves (mean_query x) = ⊥
AsksMoves (dist_query x) = ⊥
AsksMoves (play_query x v) = ⊥
AsksMoves (loss_query x v y) = ⊥
AsksMoves (moves_query x v) = Unit {0}
AsksMoves (rank_query x) = ⊥

-- the query is answered by what records hold, as each but one for a rank
abbrev pub AsksRecords : Query → Type 0
AsksRecords (mean_query x) = Unit {0}
AsksRecords (dist_query x) = Unit {0}
AsksRecords (play_query x v) = Unit {0}
AsksRecords (loss_query x v y) = Unit {0}
AsksRecords (moves_query x v) = Unit {0}
AsksRecords (rank_query x) = ⊥

-- the query is refused so: the first cause that applies, in this order; want of memory and of a
-- read come only to a query that would be answered, want of memory only to a list of moves, and
-- want of a read only where records are asked for
abbrev pub IsFaultOfQuery : ℕ → Query → QueryFault → Type 0
IsFaultOfQuery bound q OverBound = bound < pips (subject q)
IsFaultOfQuery bound q Finished = (pips (subject q) ≤ bound) × AsksOfFinished q
IsFaultOfQuery bound q NotLegal =
    (pips (subject q) ≤ bound) × (¬ AsksOfFinished q) × (¬ HasResult q)
IsFaultOfQuery bound q Memory = IsAnswerable bound q × AsksMoves q
IsFaultOfQuery bound q Read = IsAnswerable bound q × AsksRecords q

-- the reply says why the line is refused, or the line asks a query that is accepted
abbrev pub IsHeard : ℕ → List ℕ → Reply → Type 0
IsHeard bound line (Refused refusal) = IsRefused bound line (why refusal)
IsHeard bound line (Mean rolls pips) = (q : Query) × IsAccepted bound line q
IsHeard bound line (Dist shares) = (q : Query) × IsAccepted bound line q
IsHeard bound line (Play play to) = (q : Query) × IsAccepted bound line q
IsHeard bound line (Loss lost) = (q : Query) × IsAccepted bound line q
IsHeard bound line (Moves choices) = (q : Query) × IsAccepted bound line q
IsHeard bound line (Rank number) = (q : Query) × IsAccepted bound line q

-- a line is stopped only where it is accepted: for want of memory where it asks for a list of
-- moves, and for want of a read where it asks for what records hold
abbrev pub IsStopOf : ℕ → List ℕ → Stop → Type 0
IsStopOf bound line NoMemory = (q : Query) × IsAccepted bound line q × AsksMoves q
IsStopOf bound line NoRead = (q : Query) × IsAccepted bound line q × AsksRecords q
