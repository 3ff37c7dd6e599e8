-- The shares that a record tells, side by side with those of others. Source: this project's
-- profile.
use Rattle.std.specs.Prelude.{ℕ, ◌*◌}
use Rattle.std.specs.Int.{w128, from_be_bytes}
use Rattle.race_model.specs.Prelude.{bytes_at, told_share, version_by}
use Rattle.db_layout.specs.declared.stored_shares.StoredShares.{StoredShares}

-- the numerator over 36 ^ 22 of the share of exactly k rolls, where it is stored
unfoldable pub stored_share : StoredShares → ℕ → ℕ
stored_share shares k = from_be_bytes w128 (bytes_at shares.bytes.now (16 * k) 16)

-- the numerator over 36 ^ 22 of the share of exactly k rolls, wherever it is told
unfoldable pub share_by : StoredShares → ℕ → ℕ
share_by shares = told_share (version_by shares.version) shares.pips (stored_share shares)
