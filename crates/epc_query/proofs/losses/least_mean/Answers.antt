use Rattle.std.proofs.Common.{◌<◌, sym, ap, subst, ◌∙◌, arith}
use Rattle.std.proofs.lemmas.Bool.{false≢true}
use Rattle.race_model.specs.Prelude.{pips, Legal, at_rank, count_to}
use Rattle.epc_query.specs.Kinds.{long_by}
use Rattle.epc_query.proofs.Books.{played, played_low, played_under}
use Rattle.epc_query.proofs.losses.least_mean.Goals as goal

pub returns-in_err-to-clause-some : goal.returns-in_err-to-clause-some
returns-in_err-to-clause-some c =
    absurd (false≢true ((c.in_err-to.ensures {u = tt}).some.1
    (omega (
      arith,
      (c.in_ok-recorded.ensures {u = tt}).recorded,
      played_under _ c.args.position.now c.pips-pips.ensures.position c.requires c.args.roll
          c.long_bound-bound.ensures.right,
    ))))

pub returns-in_err-_play-clause-some : goal.returns-in_err-_play-clause-some
returns-in_err-_play-clause-some c =
    let x = c.args.position.now in
    let v = c.args.roll in
    absurd (false≢true ((c.in_err-_play.ensures {u = tt}).legal.1
    (subst (Legal x v)
    (sym ((c.in_ok-to.ensures {u = tt}).value
    ∙ ap at_rank (c.in_ok-recorded.ensures {u = tt}).recorded))
    (played _ x c.pips-pips.ensures.position c.requires v c.long_bound-bound.ensures.right).legal)))

pub long_mean-requires : goal.long_mean-requires
long_mean-requires c = record {
  pips = c.pips.ensures.value ∙ ap pips (c.in_ok-to.ensures {u = tt}).value;
  rank = subst (λ r. r < count_to (long_by c.args.opened.now).bound)
      (sym (c.in_ok-recorded.ensures {u = tt}).recorded)
      (played_low (long_by c.args.opened.now) c.args.position.now c.pips-pips.ensures.position
      c.requires c.args.roll c.long_bound-bound.ensures.right);
}
