use Rattle.std.proofs.Common.{◌≡◌, ℕ, ◌+◌, List, [], ◌∷◌, ◌++◌, Option, Some, length, take, drop}
use Rattle.std.proofs.Common.{Err, ap, sym, ◌∙◌, arith, rules}
use Rattle.std.proofs.lemmas.Bool.{eqb-true}
use Rattle.std.proofs.lemmas.List.{length-drop, take_rest}
use Rattle.race_model.specs.Prelude.{whole_lines}
use Rattle.certificate.proofs.Databases.{stays_more}
use Rattle.epc_query.proofs.Runs.{piece_joined, piece_rest, chunk_parts, stopped_before, none_of_length}
use Rattle.epc_query.proofs.Runs.{line_ended, line_stopped, rest_more, bytes_kept, flushed_answers, failed_flush}
use Rattle.epc_query.specs.Runs.{IsAnswered}
use Rattle.epc_query.specs.declared.run_fault.RunFault.TheVariants.{Write}
use Rattle.epc_query.proofs.lines.answer_chunk.Given.{Over}
use Rattle.epc_query.proofs.lines.answer_chunk.Goals.{After-extend-2, then-is_empty+in_ok-write_answer}
use Rattle.epc_query.proofs.lines.answer_chunk.Goals.{else-is_empty+in_ok-write_answer-2}
use Rattle.epc_query.proofs.lines.answer_chunk.Goals as goal

-- where nothing is kept, a piece is kept alone
alone : (kept piece : List ℕ) → length kept ≡ 0 → take 130 piece ≡ take 130 (kept ++ piece)
alone kept piece none = ap (λ k. take 130 (k ++ piece)) (none_of_length kept none)

pub returns-in_err-write_answer-clause-answered :
    goal.returns-in_err-write_answer-clause-answered
returns-in_err-write_answer-clause-answered g c = λ file t done start is.
    let chunk = c.args.chunk.now in
    let i = c.loop-length.start in
    let place = c.in-Some.length in
    let fault = c.in_err-write_answer.field-0.0 in
    let same : c.from_residual.result ≡ Err fault = search rules in
    let before = c.loop-length.invariant.taken file t done start is in
    let left = take_rest chunk i in
    let first = rw left at c.in-Some.ensures in
    let piece = take place (drop i chunk) in
    let read = done ++ take i chunk in
    let held = c.loop-length.held in
    let empty = eqb-true _ _ (sym c.if-is_empty.ensures) in
    let none : length held ≡ 0 = omega (arith, empty, ap length c.rest.ensures) in
    let kept = bytes_kept (g.A.Answers.book file) read start _ held (take 130 piece) piece before.0
    (rest_more c.law_input_lines.ensures.other read piece first.before) (alone held piece none) in
    let stopped = rw left at (rw c.whole_line.ensures at
    ((c.in_err-write_answer.ensures {u = tt}).answered file
    (c.loop-length.invariant.stays.told ∙ t))) in
    let cut = c.law_input_lines.ensures.more ((read ++ piece) ++ 10 ∷ [])
    (drop (i + place + 1) chunk) in
    rw same (stopped_before (g.A.Answers.book file) ((read ++ piece) ++ 10 ∷ [])
    (drop (i + place + 1) chunk) (done ++ chunk) cut.0 start _ fault
    (piece_rest done chunk i place first) cut.1
    (line_stopped c.law_lines.ensures.short (g.A.Answers.book file) (read ++ piece) start _ _
    (take 130 piece) fault kept.0 stopped (c.law_input_lines.ensures.feed (read ++ piece)).0))

pub returns-in_err-write_answer-2-clause-answered :
    goal.returns-in_err-write_answer-2-clause-answered
returns-in_err-write_answer-2-clause-answered g c = λ file t done start is.
    let chunk = c.args.chunk.now in
    let i = c.loop-length.start in
    let place = c.in-Some.length in
    let fault = c.in_err-write_answer-2.field-0.0 in
    let same : c.from_residual-in_err-write_answer-2.result ≡ Err fault = search rules in
    let before = c.loop-length.invariant.taken file t done start is in
    let left = take_rest chunk i in
    let first = rw left at c.in-Some.ensures in
    let piece = take place (drop i chunk) in
    let read = done ++ take i chunk in
    let kept = bytes_kept (g.A.Answers.book file) read start _ c.loop-length.held
    c.extend.new.self piece before.0
    (rest_more c.law_input_lines.ensures.other read piece first.before)
    (rw left at c.extend.ensures) in
    let stopped = rw c.line.ensures at
    ((c.in_err-write_answer-2.ensures {u = tt}).answered file
    (c.loop-length.invariant.stays.told ∙ t)) in
    let cut = c.law_input_lines.ensures.more ((read ++ piece) ++ 10 ∷ [])
    (drop (i + place + 1) chunk) in
    rw same (stopped_before (g.A.Answers.book file) ((read ++ piece) ++ 10 ∷ [])
    (drop (i + place + 1) chunk) (done ++ chunk) cut.0 start _ fault
    (piece_rest done chunk i place first) cut.1
    (line_stopped c.law_lines.ensures.short (g.A.Answers.book file) (read ++ piece) start _ _
    c.extend.new.self fault kept.0 stopped (c.law_input_lines.ensures.feed (read ++ piece)).0))

pub loop-length-preserved : goal.loop-length-preserved
loop-length-preserved g c =
    let chunk = c.args.chunk.now in
    let i = c.loop-length.start in
    let place = c.in-Some.length in
    let held = c.loop-length.held in
    let so_far = c.loop-length.invariant in
    let left = take_rest chunk i in
    let first = rw left at c.in-Some.ensures in
    let piece = take place (drop i chunk) in
    elim c.if-is_empty.branch [
      | then-is_empty+in_ok-write_answer w ↦
          rw (w.answers-is, w.held-is, w.writer-is) (record {
            within = omega (arith, first.within, length-drop i chunk, so_far.within);
            taken = λ file t done start is.
                let before = so_far.taken file t done start is in
                let read = done ++ take i chunk in
                let kept = bytes_kept (g.A.Answers.book file) read start _ held (take 130 piece)
                piece before.0
                (rest_more c.law_input_lines.ensures.other read piece first.before)
                (alone held piece (omega (
                  arith,
                  eqb-true _ _ (sym w.if-is_empty.ensures),
                  ap length c.rest.ensures,
                ))) in
                let has = rw left at (rw w.whole_line.ensures at
                ((w.in_ok-write_answer.ensures {u = tt}).answered file
                (so_far.stays.told ∙ t))) in
                let now = line_ended c.law_lines.ensures.short (g.A.Answers.book file)
                (read ++ piece) start _ _ (take 130 piece) _ kept.0 has
                (c.law_input_lines.ensures.feed (read ++ piece)) (sym (none_of_length held (omega (
                  arith,
                  eqb-true _ _ (sym w.if-is_empty.ensures),
                  ap length c.rest.ensures,
                )))) in
                let next = piece_joined done chunk i place first in (
                  rw (← next) now.0,
                  omega (
                    arith,
                    ap (λ input. length (whole_lines input)) next,
                    now.1,
                    kept.1,
                    before.1,
                  ),
                );
            few = omega (arith, so_far.few);
            stays = stays_more so_far.stays (w.in_ok-write_answer.ensures {u = tt}).stays
                (λ e. cc);
          })
      | else-is_empty+in_ok-write_answer-2 w ↦
          rw (w.answers-is, w.held-is, w.writer-is) (record {
            within = omega (arith, first.within, length-drop i chunk, so_far.within);
            taken = λ file t done start is.
                let before = so_far.taken file t done start is in
                let read = done ++ take i chunk in
                let kept = bytes_kept (g.A.Answers.book file) read start _ held w.extend.new.self
                piece before.0
                (rest_more c.law_input_lines.ensures.other read piece first.before)
                (rw left at w.extend.ensures) in
                let has = rw w.line.ensures at
                ((w.in_ok-write_answer-2.ensures {u = tt}).answered file
                (so_far.stays.told ∙ t)) in
                let now = line_ended c.law_lines.ensures.short (g.A.Answers.book file)
                (read ++ piece) start _ _ w.extend.new.self _ kept.0 has
                (c.law_input_lines.ensures.feed (read ++ piece)) w.clear.ensures in
                let next = piece_joined done chunk i place first in (
                  rw (← next) now.0,
                  omega (
                    arith,
                    ap (λ input. length (whole_lines input)) next,
                    now.1,
                    kept.1,
                    before.1,
                  ),
                );
            few = omega (arith, so_far.few);
            stays = stays_more so_far.stays (w.in_ok-write_answer-2.ensures {u = tt}).stays
                (λ e. cc);
          })
    ]

-- all lines of the chunk are answered, and what stands after the last one is kept
taken : (g : Over) (c : After-extend-2 g) (file : List ℕ) →
    (g.A.Answers.seen c.args.answers.now).told ≡ Some file →
    (done : List ℕ) (start : Option (List ℕ)) →
    IsAnswered (g.A.Answers.book file) done start (g.W.Write.contents c.args.writer.now)
    c.args.held.now →
    IsAnswered (g.A.Answers.book file) (done ++ c.args.chunk.now) start
    (g.W.Write.contents c.loop-length.writer)
    c.extend-2.new.self
    × (length (whole_lines (done ++ c.args.chunk.now))
    ≡ length (whole_lines done) + c.loop-length.count)
taken g c file t done start is =
    let chunk = c.args.chunk.now in
    let i = c.loop-length.start in
    let before = c.loop-length.invariant.taken file t done start is in
    let left = take_rest chunk i in
    let rest = rest_more c.law_input_lines.ensures.other (done ++ take i chunk) (drop i chunk)
    (rw left at c.in_default.ensures) in
    let kept = bytes_kept (g.A.Answers.book file) (done ++ take i chunk) start _ c.loop-length.held
    c.extend-2.new.self
    (drop i chunk) before.0 rest (rw left at c.extend-2.ensures) in
    let all = chunk_parts done chunk i in (
      rw (← all) kept.0,
      omega (arith, ap (λ input. length (whole_lines input)) all, kept.1, before.1),
    )

pub returns-in_err-flush-clause-answered : goal.returns-in_err-flush-clause-answered
returns-in_err-flush-clause-answered g c = λ file t done start is.
    let at = (goal.at.returns-in_err-flush-clause-answered g c).After-extend-2 in
    let has = taken g at file t done start is in
    let same : c.from_residual-in_err-flush.result ≡ Err c.in_err-flush.field-0.0 = search rules in
    let told = (c.in_err-flush.ensures {u = tt}).fault in
    let fault : c.in_err-flush.field-0.0 ≡ Write = cc in
    rw (same, fault)
    (failed_flush (g.A.Answers.book file) (whole_lines (done ++ c.args.chunk.now)) start _ _
    has.0.replies
    c.flush.ensures.kept)

pub returns-clause-answered : goal.returns-clause-answered
returns-clause-answered g c = λ file t done start is.
    let at = (goal.at.returns-clause-answered g c).After-extend-2 in
    let has = taken g at file t done start is in (
      flushed_answers (g.A.Answers.book file) (done ++ c.args.chunk.now) start _ _ _ has.0
          c.flush.ensures.kept,
      has.1,
    )
