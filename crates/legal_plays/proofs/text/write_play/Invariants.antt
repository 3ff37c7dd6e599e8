use Rattle.std.proofs.Common.{◌≡◌, ◌*◌, ◌-◌, ◌≤◌, length, take}
use Rattle.legal_plays.specs.MoveLists.{moves_of}
use Rattle.legal_plays.specs.Texts.{play_text}
use Rattle.legal_plays.proofs.text.write_play.Given as goal

-- the moves passed have been written, each with at most five bytes and a space between each two
abbrev pub invariant-loop-index : goal.invariant-loop-index
invariant-loop-index l = record {
  written : l.text.bytes ≡ play_text (moves_of (take l.index l.one-items));
  short : length l.text.bytes ≤ 6 * l.index - 1;
}
