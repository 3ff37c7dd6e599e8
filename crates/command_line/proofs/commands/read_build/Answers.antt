-- The file and the number that stand among the words.
use Rattle.std.proofs.Common.{Option, is_some, true≢false, ap, ap₂, sym, ◌≡◌, ◌<◌, ◌∙◌, ◌∷◌, [], ℕ, List, map, codes}
use Rattle.std.proofs.Common.{Some, None, refl, arith}
use Rattle.std.specs.Option.{unwrap_or}
use Rattle.std.specs.Str.Parse.{ExplainsUnsignedError, HasUnsignedDigitsIfOk, ParsesUnsigned}
use Rattle.clap.specs.Words.{first_value, found_of, takes}
use Rattle.command_line.specs.Asked.{IsPlain, Writes}
use Rattle.command_line.specs.Commands.{build_app}
use Rattle.command_line.proofs.PlainWords.{first_from, memory_left, one_from}
use Rattle.command_line.proofs.BoardWords.{build_board_first, build_board_none, build_board_takes, build_one}
use Rattle.command_line.proofs.BoardWords.{build_path, build_takes}
use Rattle.command_line.proofs.Contained.{numeral_accepted, numeral_is_plain, numeral_reads, without_no_minus, among}
use Rattle.command_line.proofs.Contained.{second_of_them, third_of_them}
use Rattle.command_line.proofs.commands.read_build.Given.{Over}
use Rattle.command_line.proofs.commands.read_build.Goals.{After-value_of, After-get_one}
use Rattle.command_line.proofs.commands.read_build.Goals as goal

-- the file that is found stands behind `--pips N`
numbered : (g : Over) (c : After-value_of g) (n : ℕ) (digits path : List ℕ) → Writes n digits
    → n < 256 → IsPlain path
    → map g.S.AsStr.text c.args.words.now ≡ codes "--pips" ∷ digits ∷ path ∷ []
    → first_value (found_of c.in_ok-matches.matches) (codes "FILE") ≡ Some path
numbered g c n digits path w lt plain words_are =
    let accepted = numeral_accepted 0 255 n digits w (omega arith) (omega arith) (omega arith) in
    first_from _ build_app (map g.S.AsStr.text c.args.words.now) _ c.in_ok-matches.matches
    (codes "FILE") path c.in_ok-build_command.ensures refl c.in_ok-matches.ensures.matches words_are
    (build_path digits path (numeral_is_plain digits w.0) accepted plain)

-- the file that is found stands behind `--board`
flagged_file : (g : Over) (c : After-value_of g) (path : List ℕ) → IsPlain path
    → map g.S.AsStr.text c.args.words.now ≡ codes "--board" ∷ path ∷ []
    → first_value (found_of c.in_ok-matches.matches) (codes "FILE") ≡ Some path
flagged_file g c path plain words_are =
    first_from _ build_app (map g.S.AsStr.text c.args.words.now) _ c.in_ok-matches.matches
    (codes "FILE") path c.in_ok-build_command.ensures refl c.in_ok-matches.ensures.matches words_are
    (build_board_first path plain)

-- the number is read
number : (g : Over) (c : After-get_one g) (n : ℕ) (digits path : List ℕ) → Writes n digits
    → n < 256 → IsPlain path
    → map g.S.AsStr.text c.args.words.now ≡ codes "--pips" ∷ digits ∷ path ∷ []
    → c.get_one.result ≡ Some n
number g c n digits path w lt plain words_are =
    let accepted = numeral_accepted 0 255 n digits w (omega arith) (omega arith) (omega arith) in
    let text = one_from _ build_app (map g.S.AsStr.text c.args.words.now) _ c.in_ok-matches.matches
    (codes "pips") (Some digits) c.in_ok-build_command.ensures refl c.in_ok-matches.ensures.matches
    words_are (build_one digits path (numeral_is_plain digits w.0) accepted plain ∙ ap Some
    (without_no_minus digits w.0)) in
    numeral_reads _ (λ bs r. ParsesUnsigned 8 10 bs r × ExplainsUnsignedError 10 bs r ×
    HasUnsignedDigitsIfOk bs r) 8 n digits c.get_one.result (c.get_one.ensures.value digits text) (λ
    u x h. h.0) w (omega arith)

-- there is none beside `--board`
no_number : (g : Over) (c : After-get_one g) (path : List ℕ) → IsPlain path
    → map g.S.AsStr.text c.args.words.now ≡ codes "--board" ∷ path ∷ []
    → c.get_one.result ≡ None
no_number g c path plain words_are =
    c.get_one.ensures.none (one_from _ build_app (map g.S.AsStr.text c.args.words.now) _
    c.in_ok-matches.matches (codes "pips") None c.in_ok-build_command.ensures refl
    c.in_ok-matches.ensures.matches words_are (build_board_none path plain))

pub returns-in_err-matches-clause-pips : goal.returns-in_err-matches-clause-pips
returns-in_err-matches-clause-pips g c n path (digits, w, lt, plain, words_are) is =
    let accepted = numeral_accepted 0 255 n digits w (omega arith) (omega arith) (omega arith) in
    memory_left c.from_residual-in_err-matches.result _ _ c.from_residual-in_err-matches.ensures
    (c.in_err-matches.ensures.passes (ap₂ takes c.in_ok-build_command.ensures words_are
    ∙ build_takes digits path (numeral_is_plain digits w.0) accepted plain))

pub returns-in_err-matches-clause-board : goal.returns-in_err-matches-clause-board
returns-in_err-matches-clause-board g c n path (most, plain, words_are) is =
    memory_left c.from_residual-in_err-matches.result _ _ c.from_residual-in_err-matches.ensures
    (c.in_err-matches.ensures.passes
    (ap₂ takes c.in_ok-build_command.ensures words_are ∙ build_board_takes path plain))

pub returns-in_err-path-clause-pips : goal.returns-in_err-path-clause-pips
returns-in_err-path-clause-pips g c n path (digits, w, lt, plain, words_are) is =
    memory_left c.from_residual-in_err-path.result _ _ c.from_residual-in_err-path.ensures
    ((c.in_err-path.ensures.some path
    (numbered g (goal.at.returns-in_err-path-clause-pips g c).After-value_of n digits path w lt
    plain words_are) (among _ _ path words_are (third_of_them _ digits path []))).1)

pub returns-in_err-path-clause-board : goal.returns-in_err-path-clause-board
returns-in_err-path-clause-board g c n path (most, plain, words_are) is =
    memory_left c.from_residual-in_err-path.result _ _ c.from_residual-in_err-path.ensures
    ((c.in_err-path.ensures.some path
    (flagged_file g (goal.at.returns-in_err-path-clause-board g c).After-value_of path plain
    words_are) (among _ _ path words_are (second_of_them _ path []))).1)

pub returns-in-Database-Some-clause-asked : goal.returns-in-Database-Some-clause-asked
returns-in-Database-Some-clause-asked g c =
    (map g.S.AsStr.text c.args.words.now, refl, sym c.requires, c.in_ok-path.ensures.word)

pub returns-in-Board-None-clause-asked : goal.returns-in-Board-None-clause-asked
returns-in-Board-None-clause-asked g c =
    (map g.S.AsStr.text c.args.words.now, refl, sym c.requires, c.in_ok-path.ensures.word)

pub returns-in-Database-Some-clause-pips : goal.returns-in-Database-Some-clause-pips
returns-in-Database-Some-clause-pips g c n path (digits, w, lt, plain, words_are) is =
    let at = goal.at.returns-in-Database-Some-clause-pips g c in
    let got = number g at.After-get_one n digits path w lt plain words_are in
    let read = c.in_ok-path.ensures.some path (numbered g at.After-value_of n digits path w lt plain
    words_are) (among _ _ path words_are (third_of_them _ digits path [])) in
    let pips = ap (λ (o : Option ℕ). unwrap_or o n) (sym c.in-Database-Some.is-1 ∙ got) in
    (rw (is, pips, read.0) refl, tt)

pub returns-in-Database-None-clause-pips : goal.returns-in-Database-None-clause-pips
returns-in-Database-None-clause-pips g c n path (digits, w, lt, plain, words_are) is =
    let got = number g (goal.at.returns-in-Database-None-clause-pips g c).After-get_one n digits
    path w lt plain words_are in
    absurd (true≢false (ap is_some (sym got ∙ c.in-Database-None.is-1)))

pub returns-in-Board-None-clause-board : goal.returns-in-Board-None-clause-board
returns-in-Board-None-clause-board g c n path (most, plain, words_are) is =
    let read = c.in_ok-path.ensures.some path (flagged_file g
    (goal.at.returns-in-Board-None-clause-board g c).After-value_of path plain words_are) (among _ _
    path words_are (second_of_them _ path [])) in
    (rw (is, most, read.0) refl, tt)

pub returns-clause-board : goal.returns-clause-board
returns-clause-board g c n path (most, plain, words_are) is =
    let none = no_number g (goal.at.returns-clause-board g c).After-get_one path plain words_are in
    absurd (true≢false (ap is_some (sym c.in-Board-Some.is-1 ∙ none)))
