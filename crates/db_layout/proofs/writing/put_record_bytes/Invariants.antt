use Rattle.std.proofs.Common.{◌≡◌, ◌+◌, ◌*◌, ◌++◌, take, flat_map}
use Rattle.arrayvec.specs.ArrayVec.{array_vec_len}
use Rattle.race_model.specs.Prelude.{version_by}
use Rattle.db_layout.specs.Records.{short_bytes, wide_bytes, stored_shares}
use Rattle.db_layout.proofs.writing.put_record_bytes.Given as goal

-- the mean and the plays so far
abbrev pub invariant-loop-play : goal.invariant-loop-play
invariant-loop-play l = record {
  len : array_vec_len l.bytes ≡ 16 + 2 * l.play-index;
  items : l.bytes.items ≡ wide_bytes l.fn.mean ++ flat_map short_bytes (take l.play-index l.plays);
}

-- the mean, the plays and the shares so far
abbrev pub invariant-loop-place : goal.invariant-loop-place
invariant-loop-place l = record {
  len : array_vec_len l.bytes ≡ 58 + 16 * l.place;
  items : l.bytes.items
      ≡ (wide_bytes l.fn.mean ++ flat_map short_bytes l.plays)
      ++ flat_map wide_bytes
      (take l.place (stored_shares (version_by l.fn.header.version) l.fn.pips l.spread));
}
