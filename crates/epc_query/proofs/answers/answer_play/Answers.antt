use Rattle.std.proofs.Common.{subst}
use Rattle.race_model.specs.Prelude.{IsPlayReply}
use Rattle.legal_plays.specs.MoveLists.{moves_of}
use Rattle.query_text.specs.Texts.{position_text}
use Rattle.query_text.proofs.Texts.{position_text_states}
use Rattle.epc_query.proofs.answers.answer_play.Goals as goal

pub returns-clause-answer : goal.returns-clause-answer
returns-clause-answer c =
    let told = c.in_ok-play.ensures {u = tt} in
    let to = c.in_ok-play.to in
    subst
    (λ y. IsPlayReply c.args.position.now c.args.roll y c.put_play.new.text.bytes)
    told.recorded
    (record {
      moves = moves_of c.in_ok-play.play.items;
      first = told.first;
      position = position_text to;
      position_is = position_text_states to c.checkers-checkers.ensures.position;
      written = c.put_play.ensures.text;
    })
