use Rattle.std.proofs.Common.{◌≡◌, ◌+◌, ◌*◌, ◌≤◌, ℕ, List, length, Some, false}
use Rattle.std.specs.Io.KnownBytes.{Consumes}
use Rattle.race_model.specs.Prelude.{whole_lines}
use Rattle.db_reader.specs.Telling.{WhereTold}
use Rattle.certificate.specs.Databases.{Stays}
use Rattle.epc_query.specs.Runs.{IsAnswered}
use Rattle.epc_query.proofs.running.run_lines.Given as goal

-- what was read so far was answered
abbrev pub invariant-loop-turn : goal.invariant-loop-turn
invariant-loop-turn g l = record {
  taken : WhereTold (g.A.Answers.seen l.initial.answers).told
      (λ file. WhereTold (g.R.Read.remaining l.initial.reads.reader.now) (λ input. (done : List ℕ)
      × Consumes (Some input) (g.R.Read.remaining l.reads.reader.now) done
      × IsAnswered (g.A.Answers.book file) done (g.W.Write.contents l.initial.writer)
      (g.W.Write.contents l.writer) l.held
      × (length (whole_lines done) ≡ l.count)));
  read : WhereTold (g.R.Read.remaining l.initial.reads.reader.now) (λ input. (done : List ℕ)
      × Consumes (Some input) (g.R.Read.remaining l.reads.reader.now) done
      × (l._turn ≤ length done));
  few : l.count ≤ 4096 * l._turn;
  long : length l.chunk ≡ 4096;
  left : l.reads.left + l._turn ≡ l.most;
  going : l.reads.is_over ≡ false;
  same : l.reads.reader.ghost_name ≡ l.initial.reads.reader.ghost_name;
  stays : Stays (g.A.Answers.seen l.initial.answers) (g.A.Answers.seen l.answers) ⊥;
}
