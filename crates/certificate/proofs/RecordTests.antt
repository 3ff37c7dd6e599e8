-- What the tests of a record tell, of any kind of file: by its book, and by what holds where a
-- question about it is answered yes.
use Rattle.std.proofs.Common.{◌≡◌, ◌↔◌, ℕ, suc, ◌*◌, ◌<◌, ◌≤◌, refl, ap, subst, ◌∙◌, arith}
use Rattle.race_model.specs.Prelude.{Board, IsPosition, IsFinished, Throw, all_rolls, roll_at, roll_index, weight}
use Rattle.race_model.specs.Prelude.{weighted, Legal, rank, at_rank, count_to, Book, play_in, IsPlayedIn, IsBestIn}
use Rattle.race_model.specs.Prelude.{HasMeanOver, HasLeastMeanOver, Test, play_test, least_test, mean_test, spread_test}
use Rattle.race_model.specs.Prelude.{AsksIn, IsFirstInRecord}
use Rattle.race_model.proofs.Dice.RollSums.{roll_index-range}
use Rattle.race_model.proofs.Dice.Throws.{by_index, roll_of_index}
use Rattle.race_model.proofs.FirstFaults.InRecord.{PlaysHold, before_play, before_share}
use Rattle.race_model.proofs.Numbers.Sums.{sum_by-equal}
use Rattle.least_plays.specs.Recorded.{IsLeastPlay, IsFirstRefused, IsFirstRefusedIn}
use Rattle.least_plays.specs.declared.recorded.RefusedPlay.{RefusedPlay}
use Rattle.least_plays.specs.declared.recorded.PlayFault.{PlayFault}
use Rattle.least_plays.specs.declared.recorded.PlayFault.TheVariants.{NotLegal, NotLeast as NotLeastPlay}
use Rattle.least_plays.proofs.FirstRefused.{refused_test, first_refused}
use Rattle.least_plays.proofs.RecordedPlays.{held, first-in_book}
use Rattle.certificate.specs.RecordFaults.{IsFirstFaultIn, IsNumberFault, of_refused}
use Rattle.certificate.specs.declared.check_fault.RecordFault.{RecordFault}
use Rattle.certificate.specs.declared.check_fault.RecordFault.TheVariants.{Play, NotLeast, Mean, Spread, Read}

module _ (b : Book) where
  -- the play and the least equation hold at the 21 rolls
  abbrev pub ArePlays : Board → Type 0
  ArePlays x = (i : ℕ) → i < 21 → IsPlayedIn b x (roll_at i) × IsBestIn b x (roll_at i)

  -- with the mean equation the first three hold
  pub least-mean : (over : ℕ) (x : Board) → ArePlays x → HasMeanOver over b x →
      HasLeastMeanOver over b x
  least-mean over x plays mean = record {
    played = by_index (IsPlayedIn b x) (λ i lt. (plays i lt).0);
    best = by_index (IsBestIn b x) (λ i lt. (plays i lt).1);
    mean_is = mean;
  }

  -- the plays that are read are those of the book
  module _ (x : Board) (plays : ℕ → ℕ)
      (read : (i : ℕ) → i < 21 → plays i ≡ play_in b x (roll_at i)) where
    pub play-is : (v : Throw) → plays (roll_index v) ≡ play_in b x v
    play-is v =
        let i = roll_index v in
        read i (roll_index-range v)
        ∙ ap (b.plays (rank x)) (roll_of_index i (roll_index-range v)).1

    -- a sum over the plays that are read is one over the book's
    pub sum-is : (g : ℕ → ℕ) →
        weighted (λ v. g (plays (roll_index v))) ≡ weighted (λ v. g (play_in b x v))
    sum-is g =
        sum_by-equal (λ v. weight v * g (plays (roll_index v)))
        (λ v. weight v * g (play_in b x v)) all_rolls (λ v. ap (λ r. weight v * g r) (play-is v))

    -- the tests of the plays tell of the book
    module _ (at : IsPosition x) (mean : ℕ → ℕ)
        (agree : ¬ IsFinished x → (v : Throw) (z : Board) → Legal x v z →
        mean (rank z) ≡ b.means (rank z)) where
      pub plays-hold : ((i : ℕ) → i < 21 → IsLeastPlay mean x (roll_at i) (plays i)) → ArePlays x
      plays-hold least i lt =
          held x at (roll_at i) b mean (λ unfinished. agree unfinished (roll_at i)) (plays i)
          (read i lt) (least i lt)

      -- a refused play is the first fault of the record
      pub first-refused : (holds : Test → Type 0) (unread : Type 0) (r : ℕ) →
          r < count_to b.bound → x ≡ at_rank r →
          ((i : ℕ) → holds (play_test r i) ↔ IsPlayedIn b (at_rank r) (roll_at i)) →
          ((i : ℕ) → holds (least_test r i) ↔ IsBestIn b (at_rank r) (roll_at i)) →
          (refused : RefusedPlay) → IsFirstRefused mean plays x refused →
          IsFirstFaultIn b holds unread r (of_refused refused.roll refused.fault)
      first-refused holds unread r lt same played best refused first =
          by refused.fault
          (first_refused b holds r lt played best refused
          (subst (λ x. IsFirstRefusedIn b x refused) same
          (first-in_book x at b mean agree plays read refused first)))
        where
          by : (fault : PlayFault) →
              IsFirstInRecord (AsksIn b) holds r (refused_test r refused.roll fault) →
              IsFirstFaultIn b holds unread r (of_refused refused.roll fault)
          by NotLegal is = is
          by NotLeastPlay is = is

  -- where all plays hold the first wrong number is the first fault
  module _ (holds : Test → Type 0) (unread : Type 0) (r : ℕ) (lt : r < count_to b.bound)
      (plays : PlaysHold b holds r 21) (mean : Type 0) (share : ℕ → Type 0)
      (mean_is : mean ↔ holds (mean_test r))
      (share_is : (k : ℕ) → k ≤ suc b.further → share k ↔ holds (spread_test r k)) where
    pub first-number : (fault : RecordFault) → IsNumberFault mean share (suc b.further) fault →
        IsFirstFaultIn b holds unread r fault
    first-number (Play roll) never = absurd never
    first-number (NotLeast roll) never = absurd never
    first-number Mean fails = record {
      of_rank = refl;
      is_asked = lt;
      fails = λ is. fails (mean_is.1 is);
      earlier = before_play b holds r 21 (omega arith) plays;
    }
    first-number (Spread k) first = record {
      of_rank = refl;
      is_asked = (lt, first.few);
      fails = λ is. first.wrong ((share_is k first.few).1 is);
      earlier =
          before_share b holds r k plays (mean_is.0 first.mean_is)
          (λ j less. (share_is j (omega (arith, first.few))).0 (first.earlier j less));
    }
    first-number Read never = absurd never
