use Rattle.std.proofs.Common.{◌≡◌, All, take, drop, map}
use Rattle.race_model.specs.Prelude.{Board, Throw, Book, whole_in, loss_in}
use Rattle.epc_query.specs.Choices.{result_of, IsCost}
use Rattle.bearoff_c.specs.ChoiceLists.{places_of, HasCost}
use Rattle.bearoff_c.proofs.calls.choices.tell_choices.Given as goal

-- the choices so far
abbrev pub invariant-loop-index : goal.invariant-loop-index
invariant-loop-index l = record {
  places_are : places_of (take l.index l.room) ≡ map result_of (take l.index l.found);
  costs : (b : Book) (x : Board) (v : Throw) → All (IsCost b x v) l.found
      → All (HasCost (whole_in b) (loss_in b x v)) (take l.index l.room);
  rest : drop l.index l.room ≡ drop l.index l.initial.room;
}
