use Rattle.std.proofs.Common.{◌≡◌, ap, ◌∙◌, arith}
use Rattle.std.proofs.lemmas.Bool.{false≢true}
use Rattle.race_model.specs.Prelude.{mean_of, mean_at}
use Rattle.certificate.proofs.RecordBytes.{mean-of_record}
use Rattle.epc_query.proofs.Known.{known_mean_at}
use Rattle.epc_query.proofs.database.Database.mean.Goals as goal
use Rattle.epc_query.proofs.database.Database.mean.Goals.{After-mean}

-- the number that is read is the recorded mean
read : (c : After-mean) → c.mean.result ≡ mean_at c.args.self.now c.args.rank
read c = c.mean.ensures ∙ ap mean_of c.record_at.ensures ∙ mean-of_record _ _

pub returns-in_err-mean-clause-some : goal.returns-in_err-mean-clause-some
returns-in_err-mean-clause-some c =
    absurd (false≢true ((c.in_err-mean.ensures {u = tt}).some.1
    (rw (read (goal.at.returns-in_err-mean-clause-some c).After-mean)
    (known_mean_at c.args.self.now c.bound-bound.ensures.right c.args.rank c.requires.rank))))

pub returns-clause-recorded : goal.returns-clause-recorded
returns-clause-recorded c =
    omega (
      arith,
      c.of.ensures,
      (c.in_ok-mean.ensures {u = tt}).value,
      read (goal.at.returns-clause-recorded c).After-mean,
    )
