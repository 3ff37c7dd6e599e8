-- The version of the file that a build writes where none is asked for. Source: this project's
-- profile.
use Rattle.std.specs.Prelude.{ℕ, nat_le, if◌then◌else◌}
use Rattle.race_model.specs.Prelude.{Version, full, compact}

-- full records as far as they go, to 44 pips, and compact ones beyond
abbrev pub usual_version : ℕ → Version
usual_version bound = if nat_le bound 44 then full else compact
