-- The end of a request that was refused is told.
use Rattle.std.proofs.Common.{ℕ, List, map}
use Rattle.bearoff_cli.specs.Tellings.{IsWritten}
use Rattle.bearoff_cli.proofs.ToldFaults.{told_any, told_done, told_end, at_refusal}
use Rattle.bearoff_cli.proofs.act.act_on.Goals as goal

pub returns-clause-told : goal.returns-clause-told
returns-clause-told g c some other =
    told_any (map g.S.AsStr.text c.args.words.now) c.perform.result c.tell.result.status
    (λ text. IsWritten c.tell.result.line (g.E.Write.contents c.args.errors.now)
    (g.E.Write.contents c.tell.new.errors) text) _ c.tell.ensures.silent c.tell.ensures.told
    c.perform.ensures.any.explained some other

pub returns-clause-ends : goal.returns-clause-ends
returns-clause-ends g c asked asks =
    let it = c.perform.ensures.ends asked asks in
    let Line = λ (text : List ℕ). IsWritten c.tell.result.line (g.E.Write.contents
    c.args.errors.now) (g.E.Write.contents c.tell.new.errors) text in
    record {
      fault = told_end _ asked _ _ c.perform.result c.tell.result.status Line _
          c.tell.ensures.silent c.tell.ensures.told it.fault;
      done = told_done c.perform.result c.tell.result.status Line c.tell.ensures.told it.done;
      unread = it.unread;
    }

pub returns-clause-put : goal.returns-clause-put
returns-clause-put g c asked asks =
    told_done c.perform.result c.tell.result.status
    (λ text. IsWritten c.tell.result.line (g.E.Write.contents c.args.errors.now)
    (g.E.Write.contents c.tell.new.errors) text) c.tell.ensures.told
    (c.perform.ensures.ends asked asks).put

pub returns-clause-leaves : goal.returns-clause-leaves
returns-clause-leaves g c asked asks = (c.perform.ensures.ends asked asks).leaves

pub returns-clause-other : goal.returns-clause-other
returns-clause-other g c = c.perform.ensures.any.other

pub returns-clause-refused : goal.returns-clause-refused
returns-clause-refused g c high = (at_refusal c.perform.result c.tell.result.status
    (λ text. IsWritten c.tell.result.line (g.E.Write.contents c.args.errors.now)
    (g.E.Write.contents c.tell.new.errors) text) _ c.tell.ensures.silent c.tell.ensures.told
    c.perform.ensures.any.keeps high).0

pub returns-clause-stays : goal.returns-clause-stays
returns-clause-stays g c high = (at_refusal c.perform.result c.tell.result.status
    (λ text. IsWritten c.tell.result.line (g.E.Write.contents c.args.errors.now)
    (g.E.Write.contents c.tell.new.errors) text) _ c.tell.ensures.silent c.tell.ensures.told
    c.perform.ensures.any.keeps high).1
