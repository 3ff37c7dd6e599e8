use Rattle.std.proofs.Common.{◌≡◌, ◌-◌, ◌*◌, ◌^◌, IsSome, codes, ap, sym, subst, ◌∙◌, arith}
use Rattle.std.proofs.lemmas.Bool.{false≢true}
use Rattle.arrayvec.specs.ArrayString.{array_string_len}
use Rattle.race_model.specs.Prelude.{board_book, count_at, IsFraction, IsSharePartOver}
use Rattle.db_layout.specs.BoardRecords.{Stored}
use Rattle.fixed_fraction.specs.Board.{board_whole}
use Rattle.query_text.specs.Texts.{share_text}
use Rattle.query_text.proofs.Parts.{no_parts, one_more_part, some_part, one_more_none, dist_of}
use Rattle.epc_query.proofs.Counts.{told_at, tells_count, no_share, some_share}
use Rattle.epc_query.proofs.whole_board.Board.put_dist.Goals as goal
use Rattle.epc_query.proofs.whole_board.Board.put_dist.Goals.{After-count_in, In_ok-count}
use Rattle.epc_query.proofs.whole_board.Board.put_dist.Goals.{then-not-is_none, else-not-is_none}

-- the count that is read can be told
known : (c : After-count_in) → IsSome c.count_in.result
known c =
    let is = tells_count c.args.self.now c.in_ok-stored.stored.bytes c.args.rank
    c.pips_at-pips.result c.loop-k.k c.bound-bound.ensures.right c.requires
    c.pips_at-pips.ensures.value
    (ap (λ (s : Stored). s.bytes) (c.in_ok-stored.ensures {u = tt}).record) (omega arith) in
    c.count_in.ensures.some is.0 is.1

pub returns-in_err-count-clause-some : goal.returns-in_err-count-clause-some
returns-in_err-count-clause-some c =
    rw c.from_residual-in_err-count.ensures (subst IsSome (c.in_err-count.was {u = tt})
    (known (goal.at.returns-in_err-count-clause-some c).After-count_in))

pub returns-in_err-count-clause-text : goal.returns-in_err-count-clause-text
returns-in_err-count-clause-text c =
    absurd (false≢true (subst IsSome (c.in_err-count.was {u = tt})
    (known (goal.at.returns-in_err-count-clause-text c).After-count_in)))

pub loop-k-init : goal.loop-k-init
loop-k-init c = record {
  parts = rw c.put_dist_word.ensures.text
      (no_parts (λ k. IsSharePartOver board_whole
      ((board_book c.args.self.now).shares c.args.rank k) k) (codes "dist"));
  len = omega (arith, c.put_dist_word.ensures.len);
}

-- the count that is read is the recorded one
told : (c : In_ok-count) → c.in_ok-count.count ≡ count_at c.args.self.now c.args.rank c.loop-k.k
told c =
    (c.in_ok-count.ensures {u = tt}).value
    ∙ told_at c.args.self.now c.in_ok-stored.stored.bytes c.args.rank c.pips_at-pips.result
    c.loop-k.k c.pips_at-pips.ensures.value
    (ap (λ (s : Stored). s.bytes) (c.in_ok-stored.ensures {u = tt}).record)

pub loop-k-preserved : goal.loop-k-preserved
loop-k-preserved c =
    let share = (board_book c.args.self.now).shares c.args.rank in
    let k = c.loop-k.k in
    let is = told (goal.at.loop-k-preserved c).In_ok-count in
    elim c.if-not-is_none.branch [
      | then-not-is_none w ↦ record {
        parts = one_more_part (λ k. IsSharePartOver board_whole (share k) k) k (codes "dist")
            c.loop-k.text.bytes c.if-not-is_none.text.bytes (share_text k w.board_share.result)
            c.loop-k.invariant.parts
            (some_part board_whole (share k) k w.board_share.result
            (some_share c.in_ok-count.count k (share k) (ap (λ n. n * 36 ^ (33 - k)) is)
            (λ none. false≢true (sym w.if-not-is_none.true ∙ c.is_none.ensures.1 none)))
            (subst (λ n. IsFraction (n * 36 ^ (33 - k)) board_whole w.board_share.result.numerator
            w.board_share.result.denominator) is w.board_share.ensures))
            (rw w.text-is w.push_share.ensures.bytes);
        len = omega (
          arith,
          c.loop-k.invariant.len,
          w.push_share.ensures.len,
          ap array_string_len w.text-is,
        );
      }
      | else-not-is_none w ↦ record {
        parts = rw w.text-is
            (one_more_none board_whole share k (codes "dist") c.loop-k.text.bytes
            (no_share c.in_ok-count.count k (share k) (ap (λ n. n * 36 ^ (33 - k)) is)
            (c.is_none.ensures.0 w.if-not-is_none.false)) c.loop-k.invariant.parts);
        len = omega (arith, c.loop-k.invariant.len, ap array_string_len w.text-is);
      }
    ]

pub returns-clause-text : goal.returns-clause-text
returns-clause-text c =
    dist_of board_whole 33 c.loop-k.k ((board_book c.args.self.now).shares c.args.rank)
    c.loop-k.text.bytes (omega arith) c.loop-k.invariant.parts
