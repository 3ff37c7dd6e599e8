use Rattle.std.proofs.Common.{◌+◌, ◌*◌, ◌≤◌, codes}
use Rattle.arrayvec.specs.ArrayString.{array_string_len}
use Rattle.race_model.specs.Prelude.{board_book, IsSharePartOver}
use Rattle.fixed_fraction.specs.Board.{board_whole}
use Rattle.query_text.proofs.Parts.{AreParts}
use Rattle.epc_query.proofs.whole_board.Board.put_dist.Given as goal

-- the parts so far
abbrev pub invariant-loop-k : goal.invariant-loop-k
invariant-loop-k l = record {
  parts : AreParts (λ k. IsSharePartOver board_whole ((board_book l.self).shares l.rank k) k)
      l.k (codes "dist") l.text.bytes;
  len : array_string_len l.text ≤ 4 + 122 * l.k;
}
