-- What the record of a play can hold, where each record of lower rank was accepted.
use Rattle.std.proofs.Common.{◌≡◌, ℕ, zero, suc, ◌+◌, ◌*◌, ◌<◌, ◌≤◌, List}
use Rattle.std.proofs.Common.{get_or, slice_index, sum, subst, ◌∙◌, arith}
use Rattle.race_model.specs.Prelude.{Board, IsPosition, IsFinished, checkers, pips, Throw, roll_at, rank, book_of}
use Rattle.race_model.specs.Prelude.{record_at, mean_at, play, spread, spread_at, most_rolls, EndsIn, recorded, whole}
use Rattle.race_model.specs.Prelude.{IsPlayed, IsLocalAt}
use Rattle.race_model.proofs.Plays.Results.{legal_position, legal_pips}
use Rattle.race_model.proofs.Strategies.Horizons.{ends_in_22, ends_in_most}
use Rattle.race_model.proofs.RightFiles.Bounded.{recorded_lower, mean_at_most}
use Rattle.fixed_fraction.specs.Totals.{Totals}
use Rattle.certificate.specs.RecordNumbers.{shares_of, AreTotalsAt}
use Rattle.certificate.specs.PlaySums.{AreTotalsOf, IsAccepted}
use Rattle.certificate.proofs.RecordBytes.{mean-of_record}
use Rattle.certificate.proofs.RecordTests.{sum-is}
use Rattle.certificate.proofs.Lower.{count_of-beyond, count_of-before, throw_takes, shares_whole}

module _ (f : List ℕ) (x : Board) (at : IsPosition x) (short : pips x ≤ 58)
    (lower : (z : Board) → IsPosition z → rank z < rank x → IsLocalAt f z)
    (unfinished : ¬ IsFinished x) (v : Throw) (played : IsPlayed f x v) where
  after_is : IsPosition (recorded f x v)
  after_is = legal_position x v (recorded f x v) at played.legal

  after_short : pips (recorded f x v) ≤ 58
  after_short = omega (arith, legal_pips x v (recorded f x v) played.legal)

  after_meets : (z : Board) → IsPosition z → rank z ≤ rank (recorded f x v) → IsLocalAt f z
  after_meets z is le =
      let less = recorded_lower f x v at unfinished played in
      lower z is (omega arith)

  -- its mean is within 22 rolls
  play-mean : mean_at f (play f x v) ≤ 22 * whole
  play-mean =
      subst (λ r. mean_at f r ≤ 22 * whole) played.ranked
      (mean_at_most f 22 (recorded f x v)
      (ends_in_22 (recorded f x v) after_is after_short) after_is
      (λ z is le. (after_meets z is le).means))

  -- and its shares add up to the whole
  play-total : sum (shares_of (record_at f (play f x v))) ≡ whole
  play-total =
      subst (λ r. sum (shares_of (record_at f r)) ≡ whole) played.ranked
      (shares_whole f 22 (recorded f x v) (omega arith)
      (ends_in_22 (recorded f x v) after_is after_short) after_is after_meets)

  -- none of its shares is at as many rolls as the position can need at most
  pub play-beyond : (k : ℕ) → most_rolls (pips x) ≤ k → k < 23 → spread_at f (play f x v) k ≡ 0
  play-beyond k beyond few =
      subst (λ r. spread_at f r k ≡ 0) played.ranked
      (by (most_rolls (pips x)) (ends_in_most x at) beyond)
    where
      by : (n : ℕ) → EndsIn n x → n ≤ k → spread f (recorded f x v) k ≡ 0
      by zero ends le = absurd (unfinished ends)
      by (suc n) ends le =
          count_of-beyond f n (recorded f x v) (ends unfinished v (recorded f x v) played.legal)
          after_is after_meets k (omega arith) (omega arith)

  -- none of its shares is at so few rolls that not all checkers can be off
  pub play-before : (k : ℕ) → 4 * k + 4 < checkers x → k < 23 → spread_at f (play f x v) k ≡ 0
  play-before k less few =
      subst (λ r. spread_at f r k ≡ 0) played.ranked
      (count_of-before f (recorded f x v) after_is after_meets k
      (omega (arith, throw_takes x v (recorded f x v) played.legal, less)) (omega arith))

  -- so its record is as an accepted one is
  pub play-accepted : IsAccepted (record_at f (play f x v))
  play-accepted = record {
    mean = omega (arith, mean-of_record f (play f x v), play-mean);
    shares = play-total;
  }

-- the sums of what is recorded for the 21 rolls of an unfinished position, by the recorded ranks
pub sums-are : (f : List ℕ) (x : Board) (recorded : List ℕ) (sums : Totals) → ¬ IsFinished x
    → ((i : ℕ) → i < 21 → get_or recorded i 0 ≡ play f x (roll_at i))
    → AreTotalsOf f recorded sums → AreTotalsAt f x sums
sums-are f x recorded sums unfinished read are =
    let same = sum-is (book_of f) x (slice_index recorded) read in
    record {
      unfinished = unfinished;
      means = are.means ∙ same (mean_at f);
      each = λ k few. are.each k few ∙ same (λ r. spread_at f r k);
    }
