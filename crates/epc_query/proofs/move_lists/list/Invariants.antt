use Rattle.std.proofs.Common.{◌≡◌, All, length, take}
use Rattle.race_model.specs.Prelude.{loss_in}
use Rattle.epc_query.specs.Choices.{IsByLoss}
use Rattle.epc_query.specs.Kinds.{long_by}
use Rattle.epc_query.proofs.LossOrder.{AreOf}
use Rattle.epc_query.proofs.move_lists.list.Given as goal

-- the choices of the results so far
abbrev pub invariant-loop-to : goal.invariant-loop-to
invariant-loop-to l = record {
  ordered : IsByLoss l.choices.items;
  few : length l.choices.items ≡ l.to-index;
  are : AreOf (take l.to-index l.to-items) l.choices.items;
  losses : All (λ choice. choice.loss
      ≡ loss_in (long_by l.opened) l.position l.roll choice.to) l.choices.items;
}
