-- The share of no roll is told where it isn't stored, and any other stands in its place.
use Rattle.std.proofs.Common.{◌≡◌, ◌≢◌, ℕ, zero, suc, ◌+◌, ◌*◌, ◌<◌, ◌≤◌, refl, sym, ap, ◌∙◌, arith, cond}
use Rattle.std.proofs.lemmas.Bool.{le-leb, eq-eqb, ne_eqb}
use Rattle.std.specs.Int.{w128, from_be_bytes}
use Rattle.race_model.specs.Prelude.{bytes_at, most_rolls, whole, Version, full, compact, version_by, first_share}
use Rattle.race_model.specs.Prelude.{share_count, told_share}
use Rattle.db_layout.specs.StoredShares.{stored_share, share_by}
use Rattle.db_layout.proofs.stored_shares.StoredShares.at.Goals.{then-self-eq0, else-self-eq0}
use Rattle.db_layout.proofs.stored_shares.StoredShares.at.Goals.{else-k-eq0-via-then-k-eq0+else-self-eq-COMPACT_VERSION}
use Rattle.db_layout.proofs.stored_shares.StoredShares.at.Goals.{else-k-eq0-via-else-k-eq0}
use Rattle.db_layout.proofs.stored_shares.StoredShares.at.Goals as goal

-- a share that is stored is told by itself
told-itself : (version : Version) (p : ℕ) (g : ℕ → ℕ) (k : ℕ) → first_share version ≤ k
    → k < first_share version + share_count version p → told_share version p g k ≡ g k
told-itself full p g k from under = refl
told-itself compact p g zero from under = absurd (omega arith)
told-itself compact p g (suc k) from under =
    ap (λ b. cond b (g (suc k)) 0) (le-leb (suc k) (most_rolls p) (omega (arith, under)))

-- that of no roll isn't stored in a compact record alone
first-of_other : (n k : ℕ) → n ≢ 2 → first_share (version_by n) ≤ k
first-of_other n k other =
    let version : version_by n ≡ full = ap (λ b. cond b compact full) (ne_eqb n 2 other) in
    omega (arith, ap first_share version)

first-most : (version : Version) → first_share version ≤ 1
first-most full = omega arith
first-most compact = omega arith

pub returns-then-self-eq-COMPACT_VERSION : goal.returns-then-self-eq-COMPACT_VERSION
unfolding share_by whole
returns-then-self-eq-COMPACT_VERSION c =
    let it = c.args.self.now in
    let version : version_by it.version ≡ compact =
    ap (λ b. cond b compact full) (eq-eqb it.version 2 c.if-self-eq-COMPACT_VERSION.true) in
    let told : told_share (version_by it.version) it.pips (stored_share it) c.args.k
    ≡ told_share compact it.pips (stored_share it) 0 =
    ap (λ v. told_share v it.pips (stored_share it) c.args.k) version
    ∙ ap (told_share compact it.pips (stored_share it)) c.if-k-eq0.true in
    elim c.if-self-eq0.branch [
      | then-self-eq0 w ↦ w.result-is
          ∙ sym (told ∙ ap (λ b. cond b whole 0) (eq-eqb it.pips 0 w.if-self-eq0.true))
      | else-self-eq0 w ↦ w.result-is
          ∙ sym (told ∙ ap (λ b. cond b whole 0) (ne_eqb it.pips 0 w.if-self-eq0.false))
    ]

pub returns : goal.returns
unfolding share_by stored_share
returns c =
    let it = c.args.self.now in
    let from : first_share (version_by it.version) ≤ c.args.k =
    elim c.else-k-eq0.branch [
      | else-k-eq0-via-then-k-eq0+else-self-eq-COMPACT_VERSION w ↦
          first-of_other it.version c.args.k w.if-self-eq-COMPACT_VERSION.false
      | else-k-eq0-via-else-k-eq0 w ↦
          omega (arith, w.if-k-eq0.false, first-most (version_by it.version))
    ] in
    c.read_wide.ensures
    ∙ ap (λ n. from_be_bytes w128 (bytes_at it.bytes.now (16 * n) 16)) c.from.ensures
    ∙ sym (told-itself (version_by it.version) it.pips (stored_share it) c.args.k from
    (omega (arith, c.requires, it.ends)))
