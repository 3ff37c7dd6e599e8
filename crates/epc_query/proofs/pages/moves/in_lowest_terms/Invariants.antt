use Rattle.std.proofs.Common.{◌≡◌, ◌*◌, ◌≤◌, ℕ, All, length, map, take, vec_capacity}
use Rattle.race_model.specs.Prelude.{Board, whole, IsFraction}
use Rattle.fixed_fraction.specs.Board.{part}
use Rattle.epc_query.specs.Choices.{result_of}
use Rattle.epc_query.proofs.pages.moves.in_lowest_terms.Given as goal

-- the choices so far
abbrev pub invariant-loop-choice : goal.invariant-loop-choice
invariant-loop-choice l = record {
  count : length l.choices.items ≡ l.choice-index;
  room : length l.ranked ≤ vec_capacity l.choices;
  results : map (λ choice. choice.to) l.choices.items
      ≡ map result_of (take l.choice-index l.ranked);
  losses : (loss_of : Board → ℕ) → All (λ choice. choice.loss ≡ part * loss_of choice.to) l.ranked →
      All (λ choice. IsFraction (loss_of choice.to) whole choice.loss.numerator
      choice.loss.denominator) l.choices.items;
}
