-- What the faults of a file mean, in words.
use Rattle.std.specs.Prelude.{ℕ, List, [], ◌∷◌, ◌++◌, ◌||◌, codes, map, if◌then◌else◌}
use Rattle.std.specs.Char.{is_control}
use Rattle.std.specs.Int.{is_in_range}
use Rattle.std.specs.Str.{chars, encode_utf8_all}
use Rattle.certificate.specs.declared.check_fault.CheckFault.{CheckFault}
use Rattle.certificate.specs.declared.check_fault.CheckFault.TheVariants.{Header, Play, NotLeast, Mean, Spread}
use Rattle.certificate.specs.declared.check_fault.CheckFault.TheVariants.{Read as TableRead}
use Rattle.db_layout.specs.declared.header.HeaderFault.{HeaderFault}
use Rattle.db_layout.specs.declared.header.HeaderFault.TheVariants.{TooShort, BadMagic, BadVersion, BadBound, BadCount}
use Rattle.db_layout.specs.declared.header.HeaderFault.TheVariants.{BadRecordBytes, BadReserved, BadLength}
use Rattle.bearoff_cli.specs.declared.fault.Fault.{Fault}
use Rattle.bearoff_cli.specs.declared.fault.Fault.TheVariants.{Open, File, Refused}

-- what the first fault of a header means
abbrev pub header_meaning : HeaderFault → List ℕ
header_meaning TooShort = codes "is shorter than a header, which has 32 bytes"
header_meaning BadMagic = codes "does not begin as a database or a board file does"
header_meaning BadVersion = codes "states a version other than 1, 2 and 3"
header_meaning BadBound = codes "states more pips than a file of its version has"
header_meaning BadCount = codes "states another number of positions than its pips have"
header_meaning BadRecordBytes = codes "states records of another length than its version has"
header_meaning BadReserved = codes "has a reserved byte in its header that is not 0"
header_meaning BadLength = codes "is shorter or longer than its header and its records"

-- what the first fault of a file means
abbrev pub refusal_meaning : CheckFault → List ℕ
refusal_meaning (Header fault) = header_meaning fault
refusal_meaning (Play rank roll) = codes "records a play that the rules do not allow"
refusal_meaning (NotLeast rank roll) = codes "records a play that is not the best one"
refusal_meaning (Mean rank) = codes "records a mean that is not that of its plays"
refusal_meaning (Spread rank k) = codes "records a chance that is not that of its plays"
refusal_meaning TableRead = codes "cannot be read"

-- what a fault means of a file; nothing where it is not the file's
abbrev pub meaning_of : Fault → List ℕ
meaning_of Open = codes "cannot be opened"
meaning_of File = codes "cannot be read"
meaning_of (Refused fault) = refusal_meaning fault
meaning_of _ = []

-- a character, or a question mark, 63, for one that a terminal doesn't print as it is: it controls
-- it, breaks a line, has no width or turns the direction of writing
abbrev pub shown_letter : ℕ → ℕ
shown_letter c = if is_control c || is_in_range 0x200B 0x200F c || is_in_range 0x2028 0x202E c
    || is_in_range 0x2060 0x206F c then 63 else c

-- a text as it is shown
abbrev pub shown : List ℕ → List ℕ
shown text = encode_utf8_all (map shown_letter (chars text))

-- what the system says, after a colon, where it says anything
abbrev pub after_colon : List ℕ → List ℕ
after_colon [] = []
after_colon (x ∷ xs) = codes ": " ++ x ∷ xs

-- the line of what a fault means of the file at a path, as it is shown, of which the system says
-- this
abbrev pub meaning_line : List ℕ → Fault → List ℕ → List ℕ
meaning_line path fault reason =
    path ++ (codes ": " ++ (meaning_of fault ++ (after_colon reason ++ codes "\n")))
