-- The file and the number that stand among the words.
use Rattle.std.proofs.Common.{rules, ap, ap₂, sym, ◌≡◌, ◌<◌, ◌≤◌, ◌∙◌, ◌∷◌, [], ℕ, List, map, codes, Some, None, refl}
use Rattle.std.proofs.Common.{arith}
use Rattle.std.specs.Str.Parse.{ExplainsUnsignedError, HasUnsignedDigitsIfOk, ParsesUnsigned}
use Rattle.clap.specs.Words.{first_value, found_of, takes}
use Rattle.command_line.specs.Asked.{IsPlain, Writes, flagged}
use Rattle.command_line.specs.Commands.{query_app}
use Rattle.db_layout.specs.declared.stated.Kind.{Kind}
use Rattle.command_line.proofs.PlainWords.{first_from, memory_left, one_from}
use Rattle.command_line.proofs.BoardWords.{query_kind_first, query_kind_none, query_kind_takes, query_one, query_path}
use Rattle.command_line.proofs.BoardWords.{query_takes}
use Rattle.command_line.proofs.Contained.{numeral_accepted, numeral_is_plain, numeral_reads, without_no_minus, among}
use Rattle.command_line.proofs.Contained.{third_of_them, flagged_file as flagged_there}
use Rattle.command_line.proofs.commands.read_query.Given.{Over}
use Rattle.command_line.proofs.commands.read_query.Goals.{After-value_of, After-get_one-cache}
use Rattle.command_line.proofs.commands.read_query.Goals as goal

-- the file that is found stands behind `--cache N`
numbered : (g : Over) (c : After-value_of g) (n : ℕ) (digits path : List ℕ) → Writes n digits
    → 1 ≤ n → n < 65536 → IsPlain path
    → map g.S.AsStr.text c.args.words.now ≡ codes "--cache" ∷ digits ∷ path ∷ []
    → first_value (found_of c.in_ok-matches.matches) (codes "FILE") ≡ Some path
numbered g c n digits path w more lt plain words_are =
    let accepted = numeral_accepted 1 65535 n digits w (omega arith) (omega arith) (omega arith) in
    first_from _ query_app (map g.S.AsStr.text c.args.words.now) _ c.in_ok-matches.matches
    (codes "FILE") path c.in_ok-query_command.ensures refl c.in_ok-matches.ensures.matches words_are
    (query_path digits path (numeral_is_plain digits w.0) accepted plain)

-- the file that is found stands with `--board` or nothing before it
flagged_file : (g : Over) (c : After-value_of g) (kind : Kind) (path : List ℕ)
    → IsPlain path → map g.S.AsStr.text c.args.words.now ≡ flagged kind (path ∷ [])
    → first_value (found_of c.in_ok-matches.matches) (codes "FILE") ≡ Some path
flagged_file g c kind path plain words_are =
    first_from _ query_app (map g.S.AsStr.text c.args.words.now) _ c.in_ok-matches.matches
    (codes "FILE") path c.in_ok-query_command.ensures refl c.in_ok-matches.ensures.matches words_are
    (query_kind_first kind path plain)

-- where no number is read, the file that is found stands so
no_number : (g : Over) (c : After-get_one-cache g) (kind : Kind) (path : List ℕ)
    → IsPlain path → map g.S.AsStr.text c.args.words.now ≡ flagged kind (path ∷ [])
    → c.get_one-cache.result ≡ None
no_number g c kind path plain words_are =
    c.get_one-cache.ensures.none (one_from _ query_app (map g.S.AsStr.text c.args.words.now) _
    c.in_ok-matches.matches (codes "cache") None c.in_ok-query_command.ensures refl
    c.in_ok-matches.ensures.matches words_are (query_kind_none kind path plain))

pub returns-in_err-matches-clause-file : goal.returns-in_err-matches-clause-file
returns-in_err-matches-clause-file g c kind path (plain, words_are) is =
    memory_left c.from_residual-in_err-matches.result _ _ c.from_residual-in_err-matches.ensures
    (c.in_err-matches.ensures.passes
    (ap₂ takes c.in_ok-query_command.ensures words_are ∙ query_kind_takes kind path plain))

pub returns-in_err-matches-clause-cache : goal.returns-in_err-matches-clause-cache
returns-in_err-matches-clause-cache g c n path (digits, w, more, lt, plain, words_are) is =
    let accepted = numeral_accepted 1 65535 n digits w (omega arith) (omega arith) (omega arith) in
    memory_left c.from_residual-in_err-matches.result _ _ c.from_residual-in_err-matches.ensures
    (c.in_err-matches.ensures.passes (ap₂ takes c.in_ok-query_command.ensures words_are
    ∙ query_takes digits path (numeral_is_plain digits w.0) accepted plain))

pub returns-in_err-path-clause-file : goal.returns-in_err-path-clause-file
returns-in_err-path-clause-file g c kind path (plain, words_are) is =
    memory_left c.from_residual-in_err-path.result _ _ c.from_residual-in_err-path.ensures
    ((c.in_err-path.ensures.some path
    (flagged_file g (goal.at.returns-in_err-path-clause-file g c).After-value_of kind path
    plain words_are) (among _ _ path words_are (flagged_there kind path))).1)

pub returns-in_err-path-clause-cache : goal.returns-in_err-path-clause-cache
returns-in_err-path-clause-cache g c n path (digits, w, more, lt, plain, words_are) is =
    memory_left c.from_residual-in_err-path.result _ _ c.from_residual-in_err-path.ensures
    ((c.in_err-path.ensures.some path
    (numbered g (goal.at.returns-in_err-path-clause-cache g c).After-value_of n digits path w more
    lt plain words_are) (among _ _ path words_are (third_of_them _ digits path []))).1)

pub returns-then-is_some-clause-file : goal.returns-then-is_some-clause-file
returns-then-is_some-clause-file g c kind path (plain, words_are) is =
    let none = no_number g (goal.at.returns-then-is_some-clause-file g c).After-get_one-cache kind
    path plain words_are in
    search rules

pub returns-clause-asked : goal.returns-clause-asked
returns-clause-asked g c =
    (map g.S.AsStr.text c.args.words.now, refl, sym c.requires, c.in_ok-path.ensures.word)

pub returns-clause-file : goal.returns-clause-file
returns-clause-file g c kind path (plain, words_are) is =
    let at = goal.at.returns-clause-file g c in
    let none = no_number g at.After-get_one-cache kind path plain words_are in
    let read = c.in_ok-path.ensures.some path (flagged_file g at.After-value_of kind path plain
    words_are) (among _ _ path words_are (flagged_there kind path)) in
    (rw (is, read.0, none) refl, tt)

pub returns-clause-cache : goal.returns-clause-cache
returns-clause-cache g c n path (digits, w, more, lt, plain, words_are) is =
    let at = goal.at.returns-clause-cache g c in
    let accepted = numeral_accepted 1 65535 n digits w (omega arith) (omega arith) (omega arith) in
    let text = one_from _ query_app (map g.S.AsStr.text c.args.words.now) _ c.in_ok-matches.matches
    (codes "cache") (Some digits) c.in_ok-query_command.ensures refl c.in_ok-matches.ensures.matches
    words_are (query_one digits path (numeral_is_plain digits w.0) accepted plain ∙ ap Some
    (without_no_minus digits w.0)) in
    let got = numeral_reads _ (λ bs r. ParsesUnsigned 16 10 bs r × ExplainsUnsignedError 10 bs r ×
    HasUnsignedDigitsIfOk bs r) 16 n digits c.get_one-cache.result (c.get_one-cache.ensures.value
    digits text) (λ u x h. h.0) w (omega arith) in
    let read = c.in_ok-path.ensures.some path (numbered g at.After-value_of n digits path w more lt
    plain words_are) (among _ _ path words_are (third_of_them _ digits path [])) in
    (rw (is, read.0, got) refl, tt)
