use Rattle.std.proofs.Common.{ap, ◌∙◌, arith}
use Rattle.race_model.specs.Prelude.{mean_parts}
use Rattle.db_layout.specs.BoardRecords.{Stored}
use Rattle.epc_query.proofs.BoardKnown.{known_mean_at, known_lower}
use Rattle.epc_query.proofs.whole_board.Board.mean.Goals as goal

pub returns-clause-some : goal.returns-clause-some
returns-clause-some c =
    let f = c.args.self.now in
    let right = c.bound-bound.ensures.right in
    let same = ap (λ (s : Stored). s.bytes) (c.in_ok-record_at.ensures {u = tt}).record in
    let upper = c.mean-mean.ensures.upper ∙ ap (λ b. (mean_parts b).upper) same in
    let lower = c.mean-mean.ensures.lower ∙ ap (λ b. (mean_parts b).lower) same in
    c.new.ensures.some.1 (omega (
      arith,
      upper,
      lower,
      known_lower f right c.args.rank c.requires,
      known_mean_at f right c.args.rank c.requires,
    ))
