-- What a call leaves of a source, and which call of a trial fails.
use Rattle.std.specs.Prelude.{◌≡◌, ◌-◌, ◌==◌, true, if◌then◌else◌}
use Rattle.db_reader.specs.Telling.{WhereTold, RoseWhere}
use Rattle.db_reader.specs.declared.source.Source.{Ghosts}
use Rattle.db_reader.specs.declared.countdown.Countdown.{Countdown}
use Rattle.db_reader.specs.declared.trial.FailAt.{FailAt}

-- the source tells the same bytes, and a call of it failed exactly where this holds
pub record SourceStays {S : Type 0} (g : Ghosts S) (old new : S) (Failed : Type 0) : Type 0 where
  pub told : g.tells new ≡ g.tells old
  pub cause : WhereTold (g.tells old)
      (λ _. RoseWhere Failed (g.failures old) (g.failures new))

-- a call is counted down: it fails by itself exactly where it is the one that is due
pub record IsCounted (old new : Countdown) (Failed : Type 0) : Type 0 where
  pub due : old.calls_left ≡ 1 → Failed
  pub own : new.has_failed ≡ (if old.calls_left == 1 then true else old.has_failed)
  pub left : new.calls_left ≡ old.calls_left - 1

-- the calls of a source from the next on, counted down to the one that fails
abbrev pub source_calls : {S : Type 0} → FailAt S → Countdown
source_calls trial = trial.countdown
