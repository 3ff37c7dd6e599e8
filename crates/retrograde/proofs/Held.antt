-- No share of a record is lost in a file of either version: those that a compact record leaves out
-- are known, since the record is that of a strategy.
use Rattle.std.proofs.Common.{◌≡◌, ⊎_elim, ℕ, zero, suc, ◌≤◌, Bool, true, false, cond, leb, List, refl, ap, sym, ◌∙◌}
use Rattle.std.proofs.Common.{eq-eqb, ne_eqb, leb-false, slice_index}
use Rattle.race_model.specs.Prelude.{Board, IsPosition, pips, Version, full, compact, most_rolls, whole, told_share}
use Rattle.race_model.proofs.Plays.Results.{finished_or_not}
use Rattle.race_model.proofs.RightFiles.ToldShares.{some_pips}
use Rattle.race_model.proofs.Positions.Points.{no_pips}
use Rattle.race_model.proofs.Strategies.Horizons.{count_of-beyond}
use Rattle.retrograde.specs.BuiltRecords.{IsMade, IsReached}

-- each share of a record is told by those that are stored
pub held : (means : List ℕ) (spreads : List (List ℕ)) (x : Board) (mean : ℕ)
    (plays shares : List ℕ) → IsPosition x → IsMade means spreads x mean plays shares →
    IsReached x mean shares → (version : Version) (k : ℕ) → k ≤ 22 →
    slice_index shares k ≡ told_share version (pips x) (slice_index shares) k
held means spreads x mean plays shares at made reached full k le = refl
held means spreads x mean plays shares at made reached compact zero le =
    ⊎_elim
    (λ none.
    made.start_at_end none
    ∙ sym (ap (λ b. cond b whole 0) (eq-eqb (pips x) 0 (no_pips x none))))
    (λ unfinished.
    made.start_before unfinished
    ∙ sym (ap (λ b. cond b whole 0) (ne_eqb (pips x) 0 (some_pips x unfinished))))
    (finished_or_not x)
held means spreads x mean plays shares at made reached compact (suc k) le =
    by (leb (suc k) (most_rolls (pips x))) refl
  where
    by : (b : Bool) → leb (suc k) (most_rolls (pips x)) ≡ b →
        slice_index shares (suc k) ≡ cond b (slice_index shares (suc k)) 0
    by true e = refl
    by false e =
        sym (reached.counts (suc k) le)
        ∙ count_of-beyond x reached.strategy (suc k) at reached.fits
        (leb-false (suc k) (most_rolls (pips x)) e)
