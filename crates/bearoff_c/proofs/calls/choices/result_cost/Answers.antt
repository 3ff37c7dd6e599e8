-- Whether the roll leads to the result decides, once nothing else refuses.
use Rattle.std.proofs.Common.{◌≡◌, true, Some, None, Err, refl, ap, sym, subst, arith, rules}
use Rattle.race_model.specs.Prelude.{Legal}
use Rattle.bearoff_c.specs.Refusals.{play_refusal, status_of}
use Rattle.bearoff_c.proofs.FaultStatuses.{lead_status, loss_played, loss_read, play_status, refused_by}
use Rattle.bearoff_c.proofs.calls.choices.result_cost.Goals as goal

pub returns-in_err-ends-clause-refusal : goal.returns-in_err-ends-clause-refusal
returns-in_err-ends-clause-refusal c =
    let x = c.args.position.now.points in
    let y = c.args.to.now.points in
    let fault = c.in_err-ends.field-0.0 in
    let same : c.from_residual-in_err-ends.result ≡ Err fault = search rules in
    let told = (c.in_err-ends.ensures {u = tt}).refusal in
    rw same (refused_by _ fault (loss_read c.args.file.now.is_open c.args.file.now.bound x
    c.args.one c.args.other y fault (c.in_ok-opened.ensures {u = tt}).refusal told)
    (lead_status x c.args.one c.args.other y fault told))

pub returns-in_err-turn-clause-refusal : goal.returns-in_err-turn-clause-refusal
returns-in_err-turn-clause-refusal c =
    let x = c.args.position.now.points in
    let fault = c.in_err-turn.field-0.0 in
    let same : c.from_residual-in_err-turn.result ≡ Err fault = search rules in
    let opened = c.in_ok-opened.ensures {u = tt} in
    let told = subst (λ n. Some fault ≡ play_refusal true n x c.args.one c.args.other) opened.bound
    (c.in_err-turn.ensures {u = tt}).refusal in
    rw same (refused_by _ fault (loss_played c.args.file.now.is_open c.args.file.now.bound x
    c.args.one c.args.other c.args.to.now.points (Some fault) opened.refusal
    (c.in_ok-ends.ensures {u = tt}).refusal told)
    (play_status c.args.file.now.bound x c.args.one c.args.other fault told))

pub returns-then-is_none-clause-refusal : goal.returns-then-is_none-clause-refusal
returns-then-is_none-clause-refusal c =
    let x = c.args.position.now.points in
    let opened = c.in_ok-opened.ensures {u = tt} in
    let read = c.in_ok-ends.ensures {u = tt} in
    let told = c.in_ok-turn.ensures {u = tt} in
    let not : ¬ Legal c.in_ok-turn.turn.position c.in_ok-turn.turn.roll c.in_ok-ends.ends.after =
    search rules in
    record {
      last = (
        λ e. (
          loss_played c.args.file.now.is_open c.args.file.now.bound x c.args.one c.args.other
              c.args.to.now.points None opened.refusal read.refusal
              (subst (λ n. None ≡ play_refusal true n x c.args.one c.args.other) opened.bound
              told.refusal),
          λ legal. not (rw (told.position, told.roll, read.after) legal),
        ),
        λ both. refl,
      );
      others = λ other. absurd (other refl);
    }

pub loss-requires-clause-legal : goal.loss-requires-clause-legal
loss-requires-clause-legal c = c.play_to.ensures.legal.0 (c.if-is_none.ensures {u = tt})

pub returns-clause-refusal : goal.returns-clause-refusal
returns-clause-refusal c =
    let x = c.args.position.now.points in
    let opened = c.in_ok-opened.ensures {u = tt} in
    let read = c.in_ok-ends.ensures {u = tt} in
    let told = c.in_ok-turn.ensures {u = tt} in
    let played = subst (λ n. None ≡ play_refusal true n x c.args.one c.args.other) opened.bound
    told.refusal in
    let found : Legal c.in_ok-turn.turn.position c.in_ok-turn.turn.roll c.in_ok-ends.ends.after =
    c.play_to.ensures.legal.0 (c.if-is_none.ensures {u = tt}) in
    let legal = rw (told.position, told.roll, read.after) at found in
    record {
      last = (λ e. absurd (omega (arith, e)), λ both. absurd (both.1 legal));
      others = λ other.
          ap status_of (sym (loss_played c.args.file.now.is_open c.args.file.now.bound x c.args.one
          c.args.other c.args.to.now.points None opened.refusal read.refusal played));
    }
