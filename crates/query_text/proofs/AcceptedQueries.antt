-- A query that is read from a line, accepted or refused.
use Rattle.std.proofs.Common.{◌≡◌, ℕ, ◌≤◌, List, subst}
use Rattle.race_model.specs.Prelude.{Board, pips, Query, mean_query, IsQuery, HasTooMany, IsAccepted}
use Rattle.query_text.specs.Readings.{IsAnswerable}

-- a query of the line that the database answers is accepted
pub accepted_query : (bound : ℕ) (line : List ℕ) (q : Query) → IsQuery line q → ¬ HasTooMany q
    → IsAnswerable bound q → IsAccepted bound line q
accepted_query bound line q is few can =
    record {
      query = is;
      few = few;
      within = can.within;
      unfinished = can.unfinished;
      result = can.result;
    }

-- a query of a mean is accepted where its position is of at most the bound
pub accepted_mean : (bound : ℕ) (line : List ℕ) (x : Board) → IsQuery line (mean_query x)
    → ¬ HasTooMany (mean_query x) → pips x ≤ bound → IsAccepted bound line (mean_query x)
accepted_mean bound line x is few within =
    accepted_query bound line (mean_query x) is few
    (record { within = within; unfinished = λ none. none; result = tt })

-- a query is accepted by the same bound, too
pub accepted_by : {n bound : ℕ} (line : List ℕ) (q : Query) → n ≡ bound → IsAccepted n line q
    → IsAccepted bound line q
accepted_by line q same is = subst (λ b. IsAccepted b line q) same is

-- the database answers a query that is accepted
pub answered_query : {bound : ℕ} {line : List ℕ} {q : Query} → IsAccepted bound line q
    → IsAnswerable bound q
answered_query is = record { within = is.within; unfinished = is.unfinished; result = is.result }
