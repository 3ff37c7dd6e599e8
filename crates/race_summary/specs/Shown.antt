-- What is written of a line over an opened file. Source: this project's profile.
use Rattle.std.specs.Prelude.{◌≡◌, ◌⊎◌, ℕ, Bool, true, false, List, ◌++◌, codes, Option}
use Rattle.db_layout.specs.declared.stated.Kind.{Kind}
use Rattle.race_model.specs.Prelude.{Throw}
use Rattle.race_summary.specs.Printed.{Prints}
use Rattle.race_summary.specs.Summaries.{IsSummary, IsNoSummary}
use Rattle.race_summary.specs.Values.{values}
use Rattle.race_summary.specs.declared.lines.Form.{Form}
use Rattle.race_summary.specs.declared.lines.Form.TheVariants.{Plain, Json}
use Rattle.race_summary.specs.declared.lines.NoSummary.{NoSummary}
use Rattle.race_summary.specs.declared.lines.Summary.{Summary}
use Rattle.race_summary.specs.declared.values.Value.{Value}

-- how the reason begins why a line has no summary
abbrev pub error_start : Form → List ℕ
error_start Plain = codes "error: "
error_start Json = codes "{\"error\":\""

-- the text says why a line has no summary
abbrev pub IsErrorText : Form → List ℕ → Type 0
IsErrorText form text = (rest : List ℕ) × (text ≡ error_start form ++ rest)

-- the text is the summary of a line, or says why there is none
abbrev pub IsShown : Kind × List ℕ → List ℕ → Option Throw → Form → Bool → List ℕ → Type 0
IsShown opened line given form true text = (summary : Summary)
    × IsSummary opened line given summary × Prints (values form summary) text
IsShown opened line given form false text = (why : NoSummary)
    × IsNoSummary opened line why × IsErrorText form text

-- the text has the first numbers of the summary of a line, or says why there is none
abbrev pub IsShownFirst : Kind × List ℕ → List ℕ → Option Throw → Form → List ℕ → Type 0
IsShownFirst opened line given form text =
    ((summary : Summary) × IsSummary opened line given summary × ((first rest : List Value)
    × (values form summary ≡ first ++ rest) × Prints first text))
    ⊎ IsShown opened line given form false text
