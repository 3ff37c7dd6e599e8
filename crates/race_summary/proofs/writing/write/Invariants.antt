use Rattle.std.proofs.Common.{◌≤◌, ◌++◌, take, flat_map}
use Rattle.arrayvec.specs.ArrayString.{array_string_len}
use Rattle.race_summary.specs.Values.{choice_values, player_values, roll_values}
use Rattle.race_summary.proofs.Waiting.{Holds}
use Rattle.race_summary.proofs.writing.write.Given as goal

-- the numbers so far were written, or wait
abbrev pub invariant-loop-choice : goal.invariant-loop-choice
invariant-loop-choice g l = record {
  held : Holds (player_values l.form l.summary ++ roll_values l.summary.roll
      ++ flat_map (choice_values l.form l.summary.mine.position l.summary.roll)
      (take l.choice-index l.summary.choices.items))
      (g.W.Write.contents l.initial.writer) (g.W.Write.contents l.writer) l.text.bytes;
  len : array_string_len l.text ≤ 16450;
}
