use Rattle.std.proofs.Common.{ap}
use Rattle.std.proofs.lemmas.Result.{on_ok_weaker, on_err_weaker}
use Rattle.query_text.specs.Texts.{list_text}
use Rattle.query_text.proofs.writing.write_reply_by.Goals as goal

pub returns-in-Moves-clause-all : goal.returns-in-Moves-clause-all
returns-in-Moves-clause-all g c =
    on_ok_weaker c.write_moves.result
    (λ h. (
      list_text c.as_slice.result.now,
      rw c.in-Moves.is
          (ap list_text c.as_slice.ensures.value),
      h,
    )) c.write_moves.ensures.all

pub returns-in-Moves-clause-part : goal.returns-in-Moves-clause-part
returns-in-Moves-clause-part g c =
    on_err_weaker c.write_moves.result
    (λ h. (
      list_text c.as_slice.result.now,
      rw c.in-Moves.is
          (ap list_text c.as_slice.ensures.value),
      h,
    )) c.write_moves.ensures.part
