-- Texts in buffers that a caller lends, and that of each status.
use Rattle.std.specs.Prelude.{ℕ, ◌==◌, if◌then◌else◌, List, codes, ◌≡◌, ◌<◌, ◌≤◌, ◌++◌, length, drop}

-- what a status says, in the words of the header; a number that is none of them is told so
abbrev pub status_text : ℕ → List ℕ
status_text n =
    if n == 0 then codes "success"
    else if n == 1 then codes "the file is not open"
    else if n == 2 then codes "a die is not 1 to 6"
    else if n == 3 then codes "a position has more than 15 checkers"
    else if n == 4 then codes "the pips exceed the bound, or the bound exceeds the limit"
    else if n == 5 then codes "no checker is left to move"
    else if n == 6 then codes "the roll doesn't lead to that position"
    else if n == 7 then codes "the bytes changed since they were verified"
    else if n == 8 then codes "the buffer is too small"
    else if n == 9 then codes "the file to upgrade already has version 2"
    else if n == 10 then codes "no position has that rank, or the range is too long"
    else if n == 11 then codes "the text is not a position"
    else if n == 16 then codes "fewer than 32 bytes"
    else if n == 17 then codes "the bytes don't begin with EPCTABLE"
    else if n == 18 then codes "the version is not 1 or 2, or that of a board file not 3"
    else if n == 19 then codes "the bound exceeds its version's limit of 44, 58 or 90"
    else if n == 20 then codes "the count doesn't match the bound"
    else if n == 21 then codes "the record size doesn't match the version, 426 or 0"
    else if n == 22 then codes "a reserved byte is not zero"
    else if n == 23 then codes "more or fewer bytes than the header says"
    else if n == 24 then codes "a recorded play is not legal"
    else if n == 25 then codes "a recorded play doesn't reach the least mean"
    else if n == 26 then codes "a recorded mean is not that of the recorded plays"
    else if n == 27 then codes "a share or count is not that of the recorded plays"
    else if n == 28 then codes "the bytes changed while they were read"
    else if n == 32 then codes "both players have a checker on one point"
    else if n == 33 then codes "a checker is on the bar"
    else if n == 34 then codes "the player on roll has a checker outside the home board"
    else if n == 35 then codes "an opponent's checker is behind one of the player on roll"
    else if n == 36 then codes "the opponent has a checker outside the home board"
    else codes "unknown status"

-- a buffer has a text in front where all of it has room, and its length was told; the rest of the
-- buffer, or all of it where there is no room, stays as it was
pub record HasText (text old new : List ℕ) (told : ℕ) : Type 0 where
  pub told_is : told ≡ length text
  pub written : length text ≤ length old → new ≡ text ++ drop (length text) old
  pub short : length old < length text → new ≡ old
