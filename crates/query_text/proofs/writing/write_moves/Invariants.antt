use Rattle.std.proofs.Common.{◌≤◌, [], ◌++◌, take, codes, flat_map}
use Rattle.arrayvec.specs.ArrayString.{array_string_len}
use Rattle.query_text.specs.Texts.{choice_text}
use Rattle.query_text.specs.Held.{Takes}
use Rattle.query_text.proofs.writing.write_moves.Given as goal

-- the text of the choices so far was written, or waits
abbrev pub invariant-loop-choice : goal.invariant-loop-choice
invariant-loop-choice g l = record {
  taken : Takes (g.W.Write.contents l.initial.writer) (g.W.Write.contents l.writer) [] l.text.bytes
      (codes "moves" ++ flat_map choice_text (take l.choice-index l.choices));
  len : array_string_len l.text ≤ 4036;
}
