use Rattle.std.proofs.Common.{◌≡◌, [], ◌∷◌, ◌++◌, take, sym, ◌∙◌, ap, append_assoc, arith}
use Rattle.race_model.specs.Prelude.{move_text}
use Rattle.legal_plays.specs.MoveLists.{move_of, moves_of}
use Rattle.legal_plays.specs.Texts.{play_text}
use Rattle.legal_plays.proofs.TextLemmas.{play_text-first, play_text-next}
use Rattle.legal_plays.proofs.text.write_play.Goals as goal
use Rattle.legal_plays.proofs.text.write_play.Goals.{then-index-gt0, else-index-gt0}

pub loop-index-preserved : goal.loop-index-preserved
loop-index-preserved c =
    let moves = c.as_slice-one-items.result.now in
    record {
      written = elim c.if-index-gt0.branch [
        | then-index-gt0 w ↦
            let before : c.if-index-gt0.text.bytes ≡ play_text (moves_of
            (take c.loop-index.index moves)) ++ 32 ∷ [] =
            rw w.text-is
            (w.push_str.ensures.bytes ∙ ap (λ t. t ++ 32 ∷ []) c.loop-index.invariant.written)
            in
            c.push_move.ensures.bytes ∙ ap (λ t. t ++ move_text (move_of c.one-item.result)) before
            ∙ append_assoc _ (32 ∷ []) (move_text (move_of c.one-item.result))
            ∙ sym
            (play_text-next moves c.loop-index.index c.one-item.result w.if-index-gt0.true
            c.loop-index-test.true c.one-item.is)
        | else-index-gt0 w ↦
            let none : c.loop-index.index ≡ 0 = omega arith in
            let before : c.if-index-gt0.text.bytes ≡ [] =
            rw w.text-is
            (c.loop-index.invariant.written
            ∙ ap (λ n. play_text (moves_of (take n moves))) none) in
            c.push_move.ensures.bytes ∙ ap (λ t. t ++ move_text (move_of c.one-item.result)) before
            ∙ sym
            (play_text-first moves c.loop-index.index c.one-item.result none
            c.loop-index-test.true c.one-item.is)
      ];
      short = elim c.if-index-gt0.branch [
        | then-index-gt0 w ↦
            omega (
              arith,
              c.push_move.ensures.len,
              rw w.text-is at c.push_move.ensures.len,
              w.push_str.ensures.len,
            )
        | else-index-gt0 w ↦ omega (arith, rw w.text-is at c.push_move.ensures.len)
      ];
    }
