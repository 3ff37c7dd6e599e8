use Rattle.std.proofs.Common.{◌≡◌, ◌++◌, length, take, Err, ap, subst, ◌∙◌, arith, rules}
use Rattle.std.proofs.lemmas.List.{length-take}
use Rattle.race_model.specs.Prelude.{lines_of}
use Rattle.certificate.proofs.Databases.{stays_more}
use Rattle.std.specs.Io.KnownBytes.{IsAtEnd}
use Rattle.epc_query.specs.declared.run_fault.RunFault.TheVariants.{Turns}
use Rattle.epc_query.specs.Runs.{HasAnswered}
use Rattle.epc_query.specs.UsedReads.{HasUsed}
use Rattle.epc_query.proofs.Runs.{read_none, read_more, read_all, read_front, stopped_in, run_stopped}
use Rattle.epc_query.proofs.UsedReads.{used_at, longer}
use Rattle.epc_query.proofs.running.run_lines.Goals as goal

-- what the reader has left is what the reads began with
begun : {A B : Type 0} (left : A → B) {a b : A} {told : B} → a ≡ b → left b ≡ told → left a ≡ told
begun left same is = ap left same ∙ is

-- what is so of one thing is so of the same
moved : {X : Type 0} (P : X → Type 0) (a : X) {b : X} → P a → a ≡ b → P b
moved P a is same = subst P same is

pub returns-in_default-clause-stopped : goal.returns-in_default-clause-stopped
returns-in_default-clause-stopped g c = λ file t input u.
    let so_far = c.loop-turn.invariant.taken file t input
    (begun g.R.Read.remaining c.new-reads.ensures.reader u) in
    moved (λ left. HasAnswered (g.A.Answers.book file) input left
    (g.W.Write.contents c.args.writer.now) (g.W.Write.contents c.loop-turn.writer))
    (g.R.Read.remaining c.next.new.self.reader.now) (
      so_far.0,
      read_none input _ _ so_far.0 so_far.1 (c.in_default.ensures {u = tt}).bytes,
      so_far.2.replies,
    ) (search rules)

pub returns-in_err-count-clause-stopped : goal.returns-in_err-count-clause-stopped
returns-in_err-count-clause-stopped g c = λ file t input u.
    let so_far = c.loop-turn.invariant.taken file t input
    (begun g.R.Read.remaining c.new-reads.ensures.reader u) in
    let fault = c.in_err-count.field-0.0 in
    let same : c.from_residual.result ≡ Err fault = search rules in
    let stopped = (c.in_err-count.ensures {u = tt}).answered file (c.loop-turn.invariant.stays.told
    ∙ t) so_far.0 _ so_far.2 in
    let told = (c.in-Ok.ensures {u = tt}).bytes in
    let end = told.1 c.if-taken-eq0.true (omega (arith, c.next.auto.buf)) in
    let none = rw c.if-taken-eq0.true at told.0 in
    let all : input ≡ so_far.0 = read_all input _ _ so_far.0 so_far.1 none end in
    rw same (run_stopped (g.A.Answers.book file) input _ _ _ fault (rw all stopped))

pub returns-then-taken-eq0-clause-done : goal.returns-then-taken-eq0-clause-done
returns-then-taken-eq0-clause-done g c = λ file t input u.
    let so_far = c.loop-turn.invariant.taken file t input
    (begun g.R.Read.remaining c.new-reads.ensures.reader u) in
    let has = (c.in_ok-count.ensures {u = tt}).answered file (c.loop-turn.invariant.stays.told
    ∙ t) so_far.0 _ so_far.2 in
    let told = (c.in-Ok.ensures {u = tt}).bytes in
    let end = told.1 c.if-taken-eq0.true (omega (arith, c.next.auto.buf)) in
    let none = rw c.if-taken-eq0.true at told.0 in
    let all : input ≡ so_far.0 = read_all input _ _ so_far.0 so_far.1 none end in (
      moved IsAtEnd (g.R.Read.remaining c.next.new.self.reader.now) end (search rules),
      omega (arith, has.1, so_far.3, ap (λ bytes. length (lines_of bytes)) all),
      rw all has.0,
    )

pub returns-in_err-count-2-clause-stopped : goal.returns-in_err-count-2-clause-stopped
returns-in_err-count-2-clause-stopped g c = λ file t input u.
    let so_far = c.loop-turn.invariant.taken file t input
    (begun g.R.Read.remaining c.new-reads.ensures.reader u) in
    let fault = c.in_err-count-2.field-0.0 in
    let same : c.from_residual-in_err-count-2.result ≡ Err fault = search rules in
    let stopped = (c.in_err-count-2.ensures {u = tt}).answered file
    (c.loop-turn.invariant.stays.told
    ∙ t) so_far.0 _ so_far.2 in
    let told = (c.in-Ok.ensures {u = tt}).bytes in
    let consumed = read_more input _ _ so_far.0 _ so_far.1 told.0 in
    let front = read_front input _ _ consumed in
    let cut = c.law_input_lines.ensures.more
    (so_far.0 ++ take c.in-Ok.taken c.next.new.buf) front.0 in
    rw same (run_stopped (g.A.Answers.book file) input _ _ _ fault
    (stopped_in (g.A.Answers.book file)
    (so_far.0 ++ take c.in-Ok.taken c.next.new.buf) front.0 input cut.0 _ _ fault front.1 cut.1
    stopped))

pub loop-turn-preserved : goal.loop-turn-preserved
loop-turn-preserved g c =
    let read = (c.in-Ok.ensures {u = tt}) in
    let told = c.in_ok-count-2.ensures {u = tt} in
    record {
      taken = λ file t input u.
          let so_far = c.loop-turn.invariant.taken file t input u in
          let has = told.answered file (c.loop-turn.invariant.stays.told ∙ t) so_far.0 _ so_far.2
          in (
            so_far.0 ++ take c.in-Ok.taken c.next.new.buf,
            read_more input _ _ so_far.0 _ so_far.1 read.bytes.0,
            has.0,
            omega (arith, has.1, so_far.3),
          );
      read = λ input u.
          let so_far = c.loop-turn.invariant.read input u in (
            so_far.0 ++ take c.in-Ok.taken c.next.new.buf,
            read_more input _ _ so_far.0 _ so_far.1 read.bytes.0,
            longer so_far.0 c.next.new.buf c.in-Ok.taken _ (omega (arith, c.if-taken-eq0.false))
                (omega (arith, c.next.auto.buf, read.bound)) so_far.2,
          );
      few = omega (
        arith,
        told.few,
        c.loop-turn.invariant.few,
        length-take c.in-Ok.taken c.next.new.buf,
        c.next.auto.buf,
        c.loop-turn.invariant.long,
      );
      long = omega (arith, c.next.auto.buf, c.loop-turn.invariant.long);
      left = omega (arith, c.next.ensures.left, c.loop-turn.invariant.left);
      going = search rules;
      same = c.next.ensures.same_reference ∙ c.loop-turn.invariant.same;
      stays = stays_more c.loop-turn.invariant.stays told.stays (λ e. cc);
    }

pub returns-clause-stopped : goal.returns-clause-stopped
returns-clause-stopped g c = λ file t input u.
    let so_far = c.loop-turn.invariant.taken file t input
    (begun g.R.Read.remaining c.new-reads.ensures.reader u) in
    moved (λ left. HasAnswered (g.A.Answers.book file) input left
    (g.W.Write.contents c.args.writer.now) (g.W.Write.contents c.loop-turn.writer))
    (g.R.Read.remaining c.loop-turn.reads.reader.now) (so_far.0, so_far.1, so_far.2.replies)
    (search rules)

pub returns-clause-used : goal.returns-clause-used
returns-clause-used g c = λ input u.
    let so_far = c.loop-turn.invariant.read input
    (begun g.R.Read.remaining c.new-reads.ensures.reader u) in
    moved (λ left. HasUsed c.args.turns input left Turns)
    (g.R.Read.remaining c.loop-turn.reads.reader.now)
    (so_far.0, so_far.1, omega (arith, so_far.2, c.min-most.ensures)) (search rules)

pub returns-in_err-count-clause-used : goal.returns-in_err-count-clause-used
returns-in_err-count-clause-used g c = λ input u.
    let same : c.from_residual.result ≡ Err c.in_err-count.field-0.0 = search rules in
    rw same (used_at c.args.turns input _ _ (c.in_err-count.ensures {u = tt}).cause)

pub returns-in_err-count-2-clause-used : goal.returns-in_err-count-2-clause-used
returns-in_err-count-2-clause-used g c = λ input u.
    let same : c.from_residual-in_err-count-2.result ≡ Err c.in_err-count-2.field-0.0 =
    search rules in
    rw same (used_at c.args.turns input _ _ (c.in_err-count-2.ensures {u = tt}).cause)
