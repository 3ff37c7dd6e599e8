-- The text of each fault.
use Rattle.std.specs.Prelude.{ℕ, List, ◌++◌, codes, decimal}
use Rattle.race_model.specs.Headers.{HeaderTest, long_enough, magic, version, bound, count}
use Rattle.race_model.specs.Headers.{record_bytes, reserved, exact_length}
use Rattle.race_model.specs.FirstFault.{Test, play_test, least_test, mean_test, spread_test}

-- a question about the header that is answered no
abbrev pub header_line : HeaderTest → List ℕ
header_line long_enough = codes "header too-short"
header_line magic = codes "header bad-magic"
header_line version = codes "header bad-version"
header_line bound = codes "header bad-bound"
header_line count = codes "header bad-count"
header_line record_bytes = codes "header bad-record-bytes"
header_line reserved = codes "header bad-reserved"
header_line exact_length = codes "header bad-length"

-- a question about a record that is answered no
abbrev pub test_line : Test → List ℕ
test_line (play_test rank roll) =
    codes "play rank " ++ decimal rank ++ codes " roll " ++ decimal roll
test_line (least_test rank roll) =
    codes "not-least rank " ++ decimal rank ++ codes " roll " ++ decimal roll
test_line (mean_test rank) = codes "mean rank " ++ decimal rank
test_line (spread_test rank k) = codes "spread rank " ++ decimal rank ++ codes " k " ++ decimal k

-- the table could not be read
abbrev pub read_line : List ℕ
read_line = codes "read"
