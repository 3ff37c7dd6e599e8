use Rattle.std.proofs.Common.{sym, ap, subst, ◌∙◌, arith}
use Rattle.std.proofs.lemmas.Bool.{false≢true}
use Rattle.race_model.specs.Prelude.{Legal, at_rank}
use Rattle.epc_query.proofs.Books.{played, played_under}
use Rattle.epc_query.proofs.losses.play.Goals as goal
use Rattle.epc_query.proofs.losses.play.Goals.{In_ok-to}

pub returns-in_err-to-clause-some : goal.returns-in_err-to-clause-some
returns-in_err-to-clause-some c =
    absurd (false≢true ((c.in_err-to.ensures {u = tt}).some.1
    (omega (
      arith,
      (c.in_ok-recorded.ensures {u = tt}).recorded,
      played_under _ c.args.position.now c.pips-pips.ensures.position c.requires c.args.roll
          c.long_bound-bound.ensures.right,
    ))))

-- the roll leads to the position of the rank
leads : (c : In_ok-to) → Legal c.args.position.now c.args.roll c.in_ok-to.to
leads c =
    let x = c.args.position.now in
    let v = c.args.roll in
    subst (Legal x v)
    (sym ((c.in_ok-to.ensures {u = tt}).value
    ∙ ap at_rank (c.in_ok-recorded.ensures {u = tt}).recorded))
    (played _ x c.pips-pips.ensures.position c.requires v c.long_bound-bound.ensures.right).legal

pub returns-in_err-play-clause-some : goal.returns-in_err-play-clause-some
returns-in_err-play-clause-some c =
    absurd (false≢true ((c.in_err-play.ensures {u = tt}).legal.1
    (leads (goal.at.returns-in_err-play-clause-some c).In_ok-to)))

pub returns-clause-legal : goal.returns-clause-legal
returns-clause-legal c = leads (goal.at.returns-clause-legal c).In_ok-to
