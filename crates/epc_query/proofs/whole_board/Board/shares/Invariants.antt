use Rattle.std.proofs.Common.{◌≡◌, ℕ, ◌<◌, slice_index, length}
use Rattle.race_model.specs.Prelude.{board_book}
use Rattle.epc_query.proofs.whole_board.Board.shares.Given as goal

-- the shares so far
abbrev pub invariant-loop-k : goal.invariant-loop-k
invariant-loop-k l = record {
  size : length l.shares ≡ 34;
  told : (k : ℕ) → k < l.k → slice_index l.shares k ≡ (board_book l.self).shares l.rank k;
}
