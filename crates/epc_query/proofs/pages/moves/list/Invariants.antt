use Rattle.std.proofs.Common.{◌≡◌, ◌*◌, All, take, length}
use Rattle.race_model.specs.Prelude.{loss}
use Rattle.fixed_fraction.specs.Board.{part}
use Rattle.db_reader.specs.Telling.{WhereTold}
use Rattle.certificate.specs.Databases.{Stays}
use Rattle.epc_query.specs.Choices.{IsByLoss, IsShort}
use Rattle.epc_query.proofs.LossOrder.{AreOf}
use Rattle.epc_query.proofs.pages.moves.list.Given as goal

-- the choices of the results so far
abbrev pub invariant-loop-to : goal.invariant-loop-to
invariant-loop-to g l = record {
  ordered : IsByLoss l.choices.items;
  few : length l.choices.items ≡ l.to-index;
  are : AreOf (take l.to-index l.found) l.choices.items;
  losses : WhereTold l.fn.checked.told
      (λ file. All (λ choice. choice.loss ≡ part * loss file l.position l.roll choice.to)
      l.choices.items);
  short : All IsShort l.choices.items;
  stays : Stays l.fn.checked l.checked ⊥;
}
