use Rattle.std.proofs.Common.{◌≡◌, Err, refl, sym, arith, rules}
use Rattle.race_model.specs.Prelude.{Legal}
use Rattle.bearoff_c.proofs.FaultStatuses.{lead_status, refused_by}
use Rattle.bearoff_c.proofs.calls.plays.first_play.Goals as goal

pub returns-in_err-ends-clause-refusal : goal.returns-in_err-ends-clause-refusal
returns-in_err-ends-clause-refusal c =
    let fault = c.in_err-ends.field-0.0 in
    let same : c.from_residual.result ≡ Err fault = search rules in
    let told = (c.in_err-ends.ensures {u = tt}).refusal in
    rw same (refused_by _ fault (sym told) (lead_status c.args.position.now.points c.args.one
    c.args.other c.args.to.now.points fault told))

-- there is a play to each position to which the roll leads
pub returns-in_default-clause-refusal : goal.returns-in_default-clause-refusal
returns-in_default-clause-refusal c =
    let read = c.in_ok-ends.ensures {u = tt} in
    let not : ¬ Legal c.in_ok-ends.ends.before c.in_ok-ends.ends.roll c.in_ok-ends.ends.after =
    search rules in
    record {
      last = (
        λ e. (sym read.refusal, λ legal. not (rw (read.before, read.after, read.roll) legal)),
        λ both. refl,
      );
      others = λ other. absurd (other refl);
    }

pub returns-clause-refusal : goal.returns-clause-refusal
returns-clause-refusal c =
    let read = c.in_ok-ends.ensures {u = tt} in
    let found : Legal c.in_ok-ends.ends.before c.in_ok-ends.ends.roll c.in_ok-ends.ends.after =
    (c.in-Some.ensures {u = tt}).legal.0 refl in
    let legal = rw (read.before, read.after, read.roll) at found in
    record {
      last = (λ e. absurd (omega (arith, e)), λ both. absurd (both.1 legal));
      others = λ other. rw (sym read.refusal) refl;
    }
