-- A refused play is the first fault of the record of a rank, by what a checker asks of plays.
use Rattle.std.proofs.Common.{◌↔◌, ℕ, ◌<◌, refl, arith}
use Rattle.race_model.specs.Prelude.{roll_at, at_rank, count_to, Book, IsPlayedIn, IsBestIn, Test, play_test}
use Rattle.race_model.specs.Prelude.{least_test, AsksIn, IsFirstInRecord}
use Rattle.race_model.proofs.FirstFaults.InRecord.{PlaysHold, before_play, before_least}
use Rattle.least_plays.specs.Recorded.{IsRefusedIn, IsFirstRefusedIn}
use Rattle.least_plays.specs.declared.recorded.RefusedPlay.{RefusedPlay}
use Rattle.least_plays.specs.declared.recorded.PlayFault.{PlayFault}
use Rattle.least_plays.specs.declared.recorded.PlayFault.TheVariants.{NotLegal, NotLeast}

-- the question whose answer is no
abbrev pub refused_test : ℕ → ℕ → PlayFault → Test
refused_test r roll NotLegal = play_test r roll
refused_test r roll NotLeast = least_test r roll

module _ (b : Book) (holds : Test → Type 0) (r : ℕ) (under : r < count_to b.bound)
    (play_is : (i : ℕ) → holds (play_test r i) ↔ IsPlayedIn b (at_rank r) (roll_at i))
    (least_is : (i : ℕ) → holds (least_test r i) ↔ IsBestIn b (at_rank r) (roll_at i)) where
  pub first_refused : (refused : RefusedPlay) → IsFirstRefusedIn b (at_rank r) refused →
      IsFirstInRecord (AsksIn b) holds r (refused_test r refused.roll refused.fault)
  first_refused refused first = by refused.fault first.applies
    where
      held : PlaysHold b holds r refused.roll
      held i less =
          let here = first.earlier i less in ((play_is i).1 here.0, (least_is i).1 here.1)

      by : (fault : PlayFault) → IsRefusedIn b (at_rank r) (roll_at refused.roll) fault →
          IsFirstInRecord (AsksIn b) holds r (refused_test r refused.roll fault)
      by NotLegal none = record {
        of_rank = refl;
        is_asked = (under, first.is_roll);
        fails = λ is. none ((play_is refused.roll).0 is);
        earlier = before_play b holds r refused.roll (omega (arith, first.is_roll)) held;
      }
      by NotLeast some = record {
        of_rank = refl;
        is_asked = (under, first.is_roll);
        fails = λ is. some.1 ((least_is refused.roll).0 is);
        earlier = before_least b holds r refused.roll first.is_roll held
            ((play_is refused.roll).1 some.0);
      }
