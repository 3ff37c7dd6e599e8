-- Beyond the most rolls there is no share.
use Rattle.std.proofs.Common.{◌≡◌, ℕ, zero, suc, ◌+◌, ◌≤◌, ap, arith, cond}
use Rattle.std.proofs.lemmas.Bool.{lt-leb}
use Rattle.race_model.specs.Prelude.{most_rolls, Version, full, compact, version_by, first_share, share_count}
use Rattle.race_model.specs.Prelude.{told_share}
use Rattle.db_layout.specs.StoredShares.{stored_share, share_by}
use Rattle.db_layout.proofs.stored_shares.StoredShares.end.Goals as goal

told-none : (version : Version) (p : ℕ) (g : ℕ → ℕ) (k : ℕ) → k ≤ 22
    → first_share version + share_count version p ≤ k → told_share version p g k ≡ 0
told-none full p g k few past = absurd (omega (arith, few, past))
told-none compact p g zero few past = absurd (omega (arith, past))
told-none compact p g (suc k) few past =
    ap (λ b. cond b (g (suc k)) 0) (lt-leb (suc k) (most_rolls p) (omega (arith, past)))

pub returns-clause-none : goal.returns-clause-none
unfolding share_by
returns-clause-none c k past few =
    let it = c.args.self.now in
    told-none (version_by it.version) it.pips (stored_share it) k few
    (omega (arith, past, it.ends))
