-- The equations of a record of a database, by the sums of what is recorded for the rolls.
use Rattle.std.proofs.Common.{◌≡◌, ◌↔◌, ⊎_elim, ℕ, zero, suc, ◌*◌, ◌<◌, ◌≤◌, List, Option, Some, None}
use Rattle.std.proofs.Common.{sym, ap, subst, ◌∙◌, arith}
use Rattle.std.proofs.lemmas.Bool.{cases_lt}
use Rattle.race_model.specs.Prelude.{Board, IsPosition, rank, at_rank, count_to, bound_of, book_of, record_at, mean_of}
use Rattle.race_model.specs.Prelude.{share_of, mean, spread, Holds, whole, HasMean, HasShare, HasLeastMean, IsLocalAt}
use Rattle.race_model.proofs.FirstFaults.Questions.{within_bound}
use Rattle.race_model.proofs.Ranks.PositionTotals.{rank-at_rank, count_to-most}
use Rattle.race_model.proofs.Ranks.RankOrder.{rank_apart}
use Rattle.race_model.proofs.Strategies.Horizons.{ends_in_22}
use Rattle.race_model.proofs.RightFiles.Bounded.{mean_at_most}
use Rattle.fixed_fraction.specs.Totals.{Totals}
use Rattle.certificate.specs.RecordFaults.{IsFirstFaultAt, IsNumberFault}
use Rattle.certificate.specs.RecordNumbers.{IsMeanOf, IsShareOf, AreSumsOf}
use Rattle.certificate.specs.declared.check_fault.RecordFault.{RecordFault}
use Rattle.certificate.proofs.Accepted.{mean-of_lent, share-of_lent}
use Rattle.certificate.proofs.RecordTests.{ArePlays, least-mean, first-number}

module _ (f bytes : List ℕ) (x : Board) where
  -- the mean of the bytes is that of the sums exactly where the mean equation holds
  mean-tested : (sums : Option Totals) → AreSumsOf f x sums → mean_of bytes ≡ mean f x →
      (HasMean f x → mean f x ≤ 22 * whole) → IsMeanOf (mean_of bytes) sums ↔ HasMean f x
  mean-tested None end read bounded = (
    λ is. record { at_end = λ _. sym read ∙ is; before = λ unfinished. absurd (unfinished end) },
    λ has. read ∙ has.at_end end,
  )
  mean-tested (Some sums) are read bounded = (
    λ is. record {
      at_end = λ end. absurd (are.unfinished end);
      before = λ _.
          let times = ap (λ n. 36 * n) read in omega (arith, are.means, is.1, times);
    },
    λ has.
        let small = bounded has in
        let should = has.before are.unfinished in
        (omega (arith, small, read), omega (arith, are.means, should, read)),
  )

  -- and a share is that of the sums exactly where the spread equation holds
  share-tested : (sums : Option Totals) → AreSumsOf f x sums →
      ((k : ℕ) → share_of bytes k ≡ spread f x k) → (k : ℕ) → k ≤ 22 →
      IsShareOf (share_of bytes) sums k ↔ HasShare f x k
  share-tested None end read zero few = (
    λ is. (λ _. sym (read 0) ∙ is, λ unfinished. absurd (unfinished end)),
    λ has. read 0 ∙ has.0 end,
  )
  share-tested None end read (suc k) few = (
    λ is. (λ _. sym (read (suc k)) ∙ is, λ unfinished. absurd (unfinished end)),
    λ has. read (suc k) ∙ has.0 end,
  )
  share-tested (Some sums) are read zero few = (
    λ is. (λ end. absurd (are.unfinished end), λ _. sym (read 0) ∙ is),
    λ has. read 0 ∙ has.1 are.unfinished,
  )
  share-tested (Some sums) are read (suc k) few =
      let times = ap (λ n. 36 * n) (read (suc k)) in
      let each = are.each k (omega arith) in (
        λ is. (λ end. absurd (are.unfinished end), λ _. sym times ∙ is ∙ each),
        λ has. times ∙ has.1 are.unfinished ∙ sym each,
      )

-- what is known of the record of a rank when its numbers are tested: the plays hold, the sums are
-- theirs, and each record of lower rank was accepted
module _ (f bytes : List ℕ) (r : ℕ) (sums : Option Totals) (lt : r < count_to (bound_of f))
    (small : bound_of f ≤ 58) (lower : (z : Board) → IsPosition z → rank z < r → IsLocalAt f z)
    (lent : bytes ≡ record_at f r) (plays : ArePlays (book_of f) (at_rank r))
    (are : AreSumsOf f (at_rank r) sums) where
  ranked : rank (at_rank r) ≡ r
  ranked = rank-at_rank r (omega (arith, count_to-most (bound_of f)))

  -- where the mean equation holds, the mean is within 22 rolls
  mean-bounded : HasMean f (at_rank r) → mean f (at_rank r) ≤ 22 * whole
  mean-bounded has =
      let here = within_bound (bound_of f) r lt in
      mean_at_most f 22 (at_rank r) (ends_in_22 (at_rank r) here.0 (omega (arith, small, here.1)))
      here.0
      (λ z at le. ⊎_elim
      (λ less. (lower z at (omega (arith, ranked))).means)
      (λ more.
      let same : z ≡ at_rank r = rank_apart z (at_rank r) at here.0 (omega arith) in
      subst (HasLeastMean f) (sym same) (least-mean (book_of f) whole (at_rank r) plays has))
      (cases_lt (rank z) (rank (at_rank r))))

  mean-is : IsMeanOf (mean_of bytes) sums ↔ HasMean f (at_rank r)
  mean-is =
      mean-tested f bytes (at_rank r) sums are
      (mean-of_lent f bytes (at_rank r) r lent (sym ranked)) mean-bounded

  share-is : (k : ℕ) → k ≤ 22 → IsShareOf (share_of bytes) sums k ↔ HasShare f (at_rank r) k
  share-is =
      share-tested f bytes (at_rank r) sums are
      (share-of_lent f bytes (at_rank r) r lent (sym ranked))

  -- the first of the numbers that is wrong is the first fault
  pub first-wrong : (fault : RecordFault) →
      IsNumberFault (IsMeanOf (mean_of bytes) sums) (IsShareOf (share_of bytes) sums) 22 fault →
      IsFirstFaultAt f r fault
  first-wrong =
      first-number (book_of f) (Holds f) (Unit {0}) r lt plays (IsMeanOf (mean_of bytes) sums)
      (IsShareOf (share_of bytes) sums) mean-is share-is

  -- where all are those of the sums, the equations hold
  pub right-numbers : IsMeanOf (mean_of bytes) sums →
      ((k : ℕ) → k ≤ 22 → IsShareOf (share_of bytes) sums k) → IsLocalAt f (at_rank r)
  right-numbers mean shares = record {
    means = least-mean (book_of f) whole (at_rank r) plays (mean-is.0 mean);
    shares = λ k few. (share-is k few).0 (shares k few);
  }
