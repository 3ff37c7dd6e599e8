-- What was written of the line is a part of it, whether all of it was or not.
use Rattle.std.proofs.Common.{⊎_elim, inl, inr}
use Rattle.bearoff_cli.proofs.act.act.Goals as goal

pub returns-clause-told : goal.returns-clause-told
returns-clause-told g c some other =
    let told = c.act_on-told.ensures.told some other in
    (told.0, told.1, (told.2.0, told.2.1, told.2.2.0))

pub returns-clause-ends : goal.returns-clause-ends
returns-clause-ends g c asked asks =
    let it = c.act_on-told.ensures.ends asked asks in
    record {
      fault = λ some. let told = it.fault some in
          (told.0, told.1, (told.2.0, told.2.1, told.2.2.0, told.2.3));
      done = it.done;
      unread = it.unread;
    }

pub returns-clause-other : goal.returns-clause-other
returns-clause-other g c =
    ⊎_elim (λ same. inl same.1) (λ so. inr (so.0, so.1, so.3)) c.act_on-told.ensures.other
