use Rattle.std.proofs.Common.{◌≡◌, ◌+◌, ◌-◌, ◌≤◌, ℕ, List, ◌++◌, take, length, Option}
use Rattle.race_model.specs.Prelude.{whole_lines}
use Rattle.db_reader.specs.Telling.{WhereTold}
use Rattle.certificate.specs.Databases.{Stays}
use Rattle.epc_query.specs.Runs.{IsAnswered}
use Rattle.epc_query.proofs.lines.answer_chunk.Given as goal

-- the bytes before the next line were taken
abbrev pub invariant-loop-length : goal.invariant-loop-length
invariant-loop-length g l = record {
  within : l.start ≤ length l.chunk;
  taken : WhereTold (g.A.Answers.seen l.initial.answers).told
      (λ file. (done : List ℕ) (start : Option (List ℕ))
      → IsAnswered (g.A.Answers.book file) done start (g.W.Write.contents l.initial.writer)
      l.initial.held
      → IsAnswered (g.A.Answers.book file) (done ++ take l.start l.chunk) start
      (g.W.Write.contents l.writer) l.held
      × (length (whole_lines (done ++ take l.start l.chunk)) ≡ length
      (whole_lines done) + l.count));
  few : l.count ≤ l.start;
  stays : Stays (g.A.Answers.seen l.initial.answers) (g.A.Answers.seen l.answers) ⊥;
}

-- what is left of the chunk falls
abbrev pub decreases-loop-length : goal.decreases-loop-length
decreases-loop-length g l = length l.chunk - l.start
