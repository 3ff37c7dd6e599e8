-- The statuses of the faults of a file.
use Rattle.std.proofs.Common.{◌≡◌, ℕ, Bool, true, false, Option, Some, None, refl, ap, sym, ◌∙◌, rules}
use Rattle.race_model.specs.Prelude.{Board}
use Rattle.bearoff_c.specs.Refusals.{IsStatusOr, open_refusal, lead_refusal, play_refusal, loss_refusal, status_of}
use Rattle.bearoff_c.specs.declared.statuses.Refusal.{Refusal}

-- why the loss of a play is not told is why its ends were not read
pub loss_read : (opened : Bool) (bound : ℕ) (x : Board) (one other : ℕ) (y : Board)
    (fault : Refusal) → None ≡ open_refusal opened → Some fault ≡ lead_refusal x one other y
    → loss_refusal opened bound x one other y ≡ Some fault
loss_read false bound x one other y fault is_open lead = absurd (search (rules, is_open))
loss_read true bound x one other y fault is_open lead = rw (sym lead) refl

-- or else why there is no play
pub loss_played : (opened : Bool) (bound : ℕ) (x : Board) (one other : ℕ) (y : Board)
    (told : Option Refusal) → None ≡ open_refusal opened → None ≡ lead_refusal x one other y
    → told ≡ play_refusal true bound x one other → loss_refusal opened bound x one other y ≡ told
loss_played false bound x one other y told is_open lead play = absurd (search (rules, is_open))
loss_played true bound x one other y told is_open lead play = rw (sym lead) (sym play)

-- what is refused by a test that asks no legal play has the status of that
pub refused_by : {P : Type 0} (refusal : Option Refusal) (fault : Refusal) → refusal ≡ Some fault
    → ¬ (status_of (Some fault) ≡ 6) → IsStatusOr 6 P refusal (status_of (Some fault))
refused_by refusal fault told other = record {
  last = (
    λ six. absurd (other six),
    λ both. absurd (let never : Some fault ≡ None = sym told ∙ both.0 in search (rules, never)),
  );
  others = λ _. ap status_of (sym told);
}

-- such a test is that of two positions and a roll
pub lead_status : (x : Board) (one other : ℕ) (y : Board) (fault : Refusal)
    → Some fault ≡ lead_refusal x one other y → ¬ (status_of (Some fault) ≡ 6)
lead_status x one other y fault told six = search (rules, told, six)

-- and that of a position that is to be played
pub play_status : (bound : ℕ) (x : Board) (one other : ℕ) (fault : Refusal)
    → Some fault ≡ play_refusal true bound x one other → ¬ (status_of (Some fault) ≡ 6)
play_status bound x one other fault told six = search (rules, told, six)
