use Rattle.std.proofs.Common.{◌≡◌, ◌-◌, ◌*◌, ◌^◌, IsSome, ap, subst, ◌∙◌, arith}
use Rattle.std.proofs.lemmas.List.{length-set}
use Rattle.race_model.specs.Prelude.{board_record, count_at}
use Rattle.db_layout.specs.BoardRecords.{Stored}
use Rattle.fixed_fraction.proofs.Shares.{one_more_cell}
use Rattle.epc_query.proofs.Counts.{told_at, tells_count}
use Rattle.epc_query.proofs.whole_board.Board.shares.Goals as goal
use Rattle.epc_query.proofs.whole_board.Board.shares.Goals.{After-pips_at-pips}

-- the record that was found
found : (c : After-pips_at-pips) →
    c.in_ok-stored.stored.bytes ≡ board_record c.args.self.now c.args.rank
found c = ap (λ (s : Stored). s.bytes) (c.in_ok-stored.ensures {u = tt}).record

pub returns-in_err-count_in-clause-some : goal.returns-in_err-count_in-clause-some
returns-in_err-count_in-clause-some c =
    let is = tells_count c.args.self.now c.in_ok-stored.stored.bytes c.args.rank
    c.pips_at-pips.result c.loop-k.k c.bound-bound.ensures.right c.requires
    c.pips_at-pips.ensures.value
    (found (goal.at.returns-in_err-count_in-clause-some c).After-pips_at-pips) (omega arith) in
    rw c.from_residual-in_err-count_in.ensures (subst IsSome (c.in_err-count_in.was {u = tt})
    (c.count_in.ensures.some is.0 is.1))

pub share-requires : goal.share-requires
share-requires c = record {
  few = omega (arith, c.loop-k-test.true);
  within = (c.in_ok-count_in.ensures {u = tt}).within;
}

pub loop-k-preserved : goal.loop-k-preserved
loop-k-preserved c =
    let f = c.args.self.now in
    record {
      size = length-set c.loop-k.shares c.from.result c.numerator.result ∙ c.loop-k.invariant.size;
      told = one_more_cell (λ k. count_at f c.args.rank k * 36 ^ (33 - k))
          c.loop-k.shares c.loop-k.k c.from.result c.numerator.result c.from.ensures
          (omega (arith, c.loop-k.invariant.size)) c.loop-k.invariant.told
          (c.numerator.ensures ∙ c.share.ensures
          ∙ ap (λ n. n * 36 ^ (33 - c.loop-k.k)) ((c.in_ok-count_in.ensures {u = tt}).value
          ∙ told_at f c.in_ok-stored.stored.bytes c.args.rank c.pips_at-pips.result c.loop-k.k
          c.pips_at-pips.ensures.value
          (found (goal.at.loop-k-preserved c).After-pips_at-pips)));
    }
