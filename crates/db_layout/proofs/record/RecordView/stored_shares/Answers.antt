-- The shares that are stored are those that the record tells.
use Rattle.std.proofs.Common.{◌≡◌, ⊎_elim, ℕ, zero, suc, ◌+◌, ◌-◌, ◌*◌, ◌<◌, ◌≤◌, List, length, take, drop}
use Rattle.std.proofs.Common.{refl, sym, ap, ◌∙◌, arith, take-take, cond}
use Rattle.std.proofs.lemmas.Bool.{lt-leb, cases_lt}
use Rattle.std.proofs.Math.Dec.{leb}
use Rattle.std.proofs.lemmas.List.{drop-drop, drop-take}
use Rattle.std.specs.Int.{w128, from_be_bytes}
use Rattle.race_model.specs.Prelude.{most_rolls, Version, full, compact, version_by, first_share, share_count}
use Rattle.race_model.specs.Prelude.{record_length, bytes_at, share_of, told_share}
use Rattle.race_model.proofs.Strategies.Horizons.{most_rolls-most}
use Rattle.race_model.proofs.RightFiles.ToldRecords.{told_shares}
use Rattle.db_layout.specs.StoredShares.{stored_share, share_by}
use Rattle.db_layout.proofs.record.RecordView.stored_shares.Goals as goal

-- the bytes of a part that begins at a place
part_bytes : (bytes : List ℕ) (n m place : ℕ) → place + 16 ≤ m
    → bytes_at (take m (drop n bytes)) place 16 ≡ bytes_at bytes (n + place) 16
part_bytes bytes n m place inside =
    ap (λ j. take 16 (drop place (take j (drop n bytes)))) (sym (parts m place inside))
    ∙ ap (take 16) (drop-take place (m - place) (drop n bytes))
    ∙ take-take 16 (m - place) (drop place (drop n bytes)) (omega (arith, inside))
    ∙ ap (take 16) (drop-drop place n bytes)
  where
    parts : (m place : ℕ) → place + 16 ≤ m → place + (m - place) ≡ m
    parts m place h = omega (arith, h)

-- a stored share, by the place where it stands
stored-of_part : (version : Version) (p : ℕ) (bytes : List ℕ) (k : ℕ)
    → length bytes ≡ record_length version p → first_share version ≤ k
    → k < first_share version + share_count version p
    → from_be_bytes w128 (bytes_at (take (length bytes - (58 - 16 * first_share version))
    (drop (58 - 16 * first_share version) bytes)) (16 * k) 16)
    ≡ share_of bytes (k - first_share version)
unfolding share_of
stored-of_part version p bytes k long from under =
    ap (from_be_bytes w128) (part_bytes bytes (58 - 16 * first_share version)
    (length bytes - (58 - 16 * first_share version)) (16 * k) (inside version from under long)
    ∙ ap (λ n. bytes_at bytes n 16) (place version from))
  where
    place : (v : Version) → first_share v ≤ k
        → 58 - 16 * first_share v + 16 * k ≡ 58 + 16 * (k - first_share v)
    place full from = omega (arith, from)
    place compact from = omega (arith, from)

    inside : (v : Version) → first_share v ≤ k → k < first_share v + share_count v p
        → length bytes ≡ record_length v p
        → 16 * k + 16 ≤ length bytes - (58 - 16 * first_share v)
    inside full from under long = omega (arith, under, long)
    inside compact from under long = omega (arith, under, long)

-- what is told goes by what is stored alone
told-same : (version : Version) (p : ℕ) (g h : ℕ → ℕ) (k : ℕ) → k ≤ 22
    → ((j : ℕ) → first_share version ≤ j → j < first_share version + share_count version p
    → g j ≡ h j) → told_share version p g k ≡ told_share version p h k
told-same full p g h k few same = same k (omega arith) (omega (arith, few))
told-same compact p g h zero few same = refl
told-same compact p g h (suc k) few same = ⊎_elim
    (λ past.
    ap (λ b. cond b (g (suc k)) 0) (lt-leb (suc k) (most_rolls p) past)
    ∙ sym (ap (λ b. cond b (h (suc k)) 0) (lt-leb (suc k) (most_rolls p) past)))
    (λ under. ap (λ n. cond (leb (suc k) (most_rolls p)) n 0)
    (same (suc k) (omega arith) (omega (arith, under))))
    (cases_lt (most_rolls p) (suc k))

pub returns : goal.returns
unfolding stored_share share_by
returns c k few =
    let inside = c.self.inside in
    let version = version_by inside.version in
    let start : c.from.result ≡ first_share version =
    c.from.ensures ∙ c.first_share-first.ensures in
    told-same version inside.pips _ (λ n. share_of inside.bytes.now (n - first_share version)) k few
    (λ j from under.
    ap (λ n. from_be_bytes w128 (bytes_at (take (length inside.bytes.now - (58 - 16 * n))
    (drop (58 - 16 * n) inside.bytes.now)) (16 * j) 16)) start
    ∙ stored-of_part version inside.pips inside.bytes.now j c.self.invariant.0 from under)
    ∙ sym (told_shares version inside.pips inside.bytes.now k
    (most_rolls-most inside.pips c.self.invariant.1) c.self.invariant.0 few)
    ∙ ap (λ l. share_of l k) c.self.view_is
