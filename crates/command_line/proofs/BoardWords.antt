-- `--board`, or an option with a number, and then a file.
use Rattle.std.proofs.Common.{◌≡◌, ◌∙◌, ◌==◌, ◌&&◌, cond, ℕ, true, refl, ap, ap₂, List, [], ◌∷◌, Some, None}
use Rattle.std.proofs.Common.{◌||◌, codes, false, fold, pos}
use Rattle.std.specs.Str.{bytes_eq}
use Rattle.clap.specs.Words.{App, Text, built, first_of, matches_of, one_of, takes}
use Rattle.clap.specs.Simple.{filled, Shape}
use Rattle.clap.specs.Walk.{Held, Walk, finished, nothing_held, used, value, walk}
use Rattle.clap.specs.Walk.{walk_from, walked, Rule, Step, after_step, long_or_other, option, plain_word}
use Rattle.clap.specs.Walk.{short_or_plain, trailing, word_met}
use Rattle.clap.specs.Takes.{step_passes, turn_passes, walk_passes, bundle_passes, flag_word_passes, word_passes}
use Rattle.clap.proofs.OnLiterals.{clap_on_literals}
use Rattle.command_line.specs.Asked.{IsPlain, Writes, flagged, kind_in}
use Rattle.command_line.specs.Commands.{board_rule, build_app, file_app, query_app}
use Rattle.db_layout.specs.declared.stated.Kind.{Kind}
use Rattle.db_layout.specs.declared.stated.Kind.TheVariants.{Database, Board}
use Rattle.command_line.proofs.Contained.{numeral_is_plain}
use Rattle.command_line.proofs.PlainWords.{Leads, either, file_finds, file_takes, is_false, no_dashes, no_long}
use Rattle.command_line.proofs.PlainWords.{no_short, taken, walk_at}
use Rattle.clap.specs.Lexer.{long_of, without_minus}
use Rattle.clap.specs.ValueTests.{accepts}
use Rattle.std.specs.Option.{option_map_or}
use Rattle.clap.specs.declared.builder.value_parser.ValueParser.TheVariants as vp

-- ---- the kind that words speak of

-- a word that does not begin with a hyphen counts for nothing
pub plain_kind : (word : Text) (rest : List Text) → IsPlain word
    → kind_in (word ∷ rest) ≡ kind_in rest
plain_kind [] rest e = refl
plain_kind (x ∷ []) rest e = either (x == 45)
    (λ b. cond (b && false) Board (cond (b && false) Database (kind_in rest))) (kind_in rest) refl
    refl
plain_kind (x ∷ y ∷ xs) rest e =
    ap (λ b. cond (b && bytes_eq (y ∷ xs) (codes "-board")) Board
    (cond (b && bytes_eq (y ∷ xs) (codes "-")) Database (kind_in rest))) (is_false (x == 45) e)

-- a number and a path are of a database
pub number_kind : (n : ℕ) (digits path : Text) → Writes n digits → IsPlain path
    → kind_in (digits ∷ path ∷ []) ≡ Database
number_kind n digits path w plain =
    plain_kind digits (path ∷ []) (numeral_is_plain digits w.0) ∙ plain_kind path [] plain

-- the words for a file of a kind speak of it
pub flagged_kind : (kind : Kind) (path : Text) → IsPlain path
    → kind_in (flagged kind (path ∷ [])) ≡ kind
flagged_kind Database path plain = plain_kind path [] plain
flagged_kind Board path plain = refl

-- ---- `--board` and a file

-- what is held once `--board` was met
abbrev board_held : Held
board_held = record { rows = used (filled board_rule) [] []; pending = None; skip = 0 }

abbrev kind_held : Kind → Held
kind_held Database = nothing_held
kind_held Board = board_held

-- ---- a file of a kind

file_leads : (name : Text) (kind : Kind) → Leads (file_app name) (kind_held kind) (flagged kind)
unfolding clap_on_literals
file_leads name Database = record {
  takes_by = λ more. refl;
  finds_by = λ more. refl;
  walks = λ more. refl;
  passes = λ more is. is;
  turn = refl;
}
file_leads name Board = record {
  takes_by = λ more. refl;
  finds_by = λ more. refl;
  walks = λ more. refl;
  passes = λ more is. is;
  turn = refl;
}

-- a command of some name takes the words, and gives the path
pub kind_takes : (name : Text) (kind : Kind) (path : Text) → IsPlain path
    → takes (file_app name) (flagged kind (path ∷ [])) ≡ true
kind_takes name Database path plain = file_takes (file_leads name Database) path plain refl
kind_takes name Board path plain = file_takes (file_leads name Board) path plain refl

pub kind_first : (name : Text) (kind : Kind) (path : Text) → IsPlain path
    → first_of (codes "FILE") (matches_of (file_app name) (flagged kind (path ∷ []))) ≡ Some path
kind_first name Database path plain =
    file_finds (file_leads name Database) path plain (first_of (codes "FILE"))
kind_first name Board path plain =
    file_finds (file_leads name Board) path plain (first_of (codes "FILE"))

-- ---- build --board FILE

build_leads : Leads build_app board_held (flagged Board)
unfolding clap_on_literals
build_leads = record {
  takes_by = λ more. refl;
  finds_by = λ more. refl;
  walks = λ more. refl;
  passes = λ more is. is;
  turn = refl;
}

module _ (path : Text) (plain : IsPlain path) where
  -- it takes the words
  pub build_board_takes : takes build_app (flagged Board (path ∷ [])) ≡ true
  build_board_takes = file_takes build_leads path plain refl

  -- the words give the path, and no value of `--pips`
  pub build_board_first : first_of (codes "FILE") (matches_of build_app
      (flagged Board (path ∷ []))) ≡ Some path
  build_board_first = file_finds build_leads path plain (first_of (codes "FILE"))

  pub build_board_none : one_of (codes "pips") (matches_of build_app
      (flagged Board (path ∷ []))) ≡ None
  build_board_none = file_finds build_leads path plain (one_of (codes "pips"))

-- ---- `query` and a file of a kind

query_leads : (kind : Kind) → Leads query_app (kind_held kind) (flagged kind)
unfolding clap_on_literals
query_leads Database = record {
  takes_by = λ more. refl;
  finds_by = λ more. refl;
  walks = λ more. refl;
  passes = λ more is. is;
  turn = refl;
}
query_leads Board = record {
  takes_by = λ more. refl;
  finds_by = λ more. refl;
  walks = λ more. refl;
  passes = λ more is. is;
  turn = refl;
}

-- it takes the words
pub query_kind_takes : (kind : Kind) (path : Text) → IsPlain path
    → takes query_app (flagged kind (path ∷ [])) ≡ true
query_kind_takes Database path plain = file_takes (query_leads Database) path plain refl
query_kind_takes Board path plain = file_takes (query_leads Board) path plain refl

-- the words give the path, and no value of `--cache`
pub query_kind_first : (kind : Kind) (path : Text) → IsPlain path
    → first_of (codes "FILE") (matches_of query_app (flagged kind (path ∷ []))) ≡ Some path
query_kind_first Database path plain =
    file_finds (query_leads Database) path plain (first_of (codes "FILE"))
query_kind_first Board path plain =
    file_finds (query_leads Board) path plain (first_of (codes "FILE"))

pub query_kind_none : (kind : Kind) (path : Text) → IsPlain path
    → one_of (codes "cache") (matches_of query_app (flagged kind (path ∷ []))) ≡ None
query_kind_none Database path plain =
    file_finds (query_leads Database) path plain (one_of (codes "cache"))
query_kind_none Board path plain =
    file_finds (query_leads Board) path plain (one_of (codes "cache"))

-- ---- An option with a number, and then a file

-- a walk that waits for a value of an option
abbrev waiting_for : Text → Held → ℕ → Walk
waiting_for id h n =
    record { held = h; waiting = option id; position = n; is_trailing = false; stopped = None }

module _ (word : Text) (plain : IsPlain word) (id : Text) where
  value_met : (c : List Rule) (n : ℕ) (h : Held) → word_met c [] false (option id) n word h
      ≡ plain_word c (option id) word h
  value_met c n h =
      ap (λ b. cond b (h, trailing n) (long_or_other c (option id) word (long_of word) h))
      (no_dashes word plain)
      ∙ ap (λ o. long_or_other c (option id) word o h) (no_long word plain)
      ∙ ap (λ o. short_or_plain c (option id) word o h) (no_short word plain)

  value_walked : (c : List Rule) (n : ℕ) (h : Held) → walked c [] (waiting_for id h n) word
      ≡ after_step c word (waiting_for id h n) (plain_word c (option id) word h).0
      (plain_word c (option id) word h).1
  unfolding walked
  value_walked c n h =
      ap (λ (met : Held × Step). after_step c word (waiting_for id h n) met.0 met.1)
      (value_met c n h)

  value_passes : (s : Shape) (h : Held) → word_passes s [] false (option id) word h ≡ true
  value_passes s h =
      ap (λ b. b || flag_word_passes s.rules s.args_override_self (long_of word) word h)
      (no_dashes word plain)
      ∙ ap (λ o. flag_word_passes s.rules s.args_override_self o word h) (no_long word plain)
      ∙ ap (λ o. option_map_or (λ flags. bundle_passes s.rules s.args_override_self flags h) o
      true) (no_short word plain)

  value_turn : (s : Shape) (n : ℕ) (h : Held) → turn_passes s [] (waiting_for id h n) word
      ≡ step_passes s n (plain_word s.rules (option id) word h).0
      (plain_word s.rules (option id) word h).1
  value_turn s n h =
      ap₂ (λ b (met : Held × Step). b && step_passes s n met.0 met.1) (value_passes s h)
      (value_met s.rules n h)

abbrev option_held : Text → Held
option_held id = record { rows = []; pending = Some (id, []); skip = 0 }

abbrev value_held : Text → Text → Held
value_held id digits = record { rows = []; pending = Some (id, digits ∷ []); skip = 0 }

-- an option of a command waits for a number, takes it and then a file
module _ (app : App) (id flag digits : Text) (plain : IsPlain digits)
    (met : walked (built app).top.rules [] (walk_from nothing_held) flag
    ≡ waiting_for id (option_held id) 1)
    (passed : turn_passes (built app).top [] (walk_from nothing_held) flag ≡ true)
    (taken_up : after_step (built app).top.rules digits (waiting_for id (option_held id) 1)
    (plain_word (built app).top.rules (option id) digits (option_held id)).0
    (plain_word (built app).top.rules (option id) digits (option_held id)).1
    ≡ walk_at (value_held id digits) 1)
    (steps : step_passes (built app).top 1
    (plain_word (built app).top.rules (option id) digits (option_held id)).0
    (plain_word (built app).top.rules (option id) digits (option_held id)).1 ≡ true)
    (turn : step_passes (built app).top 1 (value_held id digits) value ≡ true)
    (takes_by : (more : List Text) → takes app (flag ∷ digits ∷ more) ≡ taken (built app)
    (walk_passes (built app).top [] (walk_from nothing_held) (flag ∷ digits ∷ more))
    (walk (built app).top.rules [] nothing_held (flag ∷ digits ∷ more)))
    (finds_by : (more : List Text) → matches_of app (flag ∷ digits ∷ more)
    ≡ finished (built app).top.rules
    (walk (built app).top.rules [] nothing_held (flag ∷ digits ∷ more)).held) where
  number_walked : walked (built app).top.rules []
      (walked (built app).top.rules [] (walk_from nothing_held) flag) digits
      ≡ walk_at (value_held id digits) 1
  number_walked = ap (λ w. walked (built app).top.rules [] w digits) met
      ∙ value_walked digits plain id (built app).top.rules 1 (option_held id) ∙ taken_up

  option_leads : Leads app (value_held id digits) (λ more. flag ∷ digits ∷ more)
  unfolding walk_passes
  option_leads = record {
    takes_by = takes_by;
    finds_by = finds_by;
    walks = λ more. ap (λ w. fold (walked (built app).top.rules []) w more) number_walked;
    passes = λ more is. ap₂ (λ a b. a && b) passed (ap₂ (λ a b. a && b)
        (ap (λ w. turn_passes (built app).top [] w digits) met
        ∙ value_turn digits plain id (built app).top 1 (option_held id) ∙ steps)
        (ap (λ w. walk_passes (built app).top [] w more) number_walked ∙ is));
    turn = turn;
  }

-- ---- build --pips N FILE

module _ (digits path : Text) (digits_plain : IsPlain digits)
    (accepted : accepts false (vp.Signed (pos 0) (pos 255)) digits ≡ true) (plain : IsPlain path)
  where
    pips_lead : Leads build_app (value_held (codes "pips") digits)
        (λ more. codes "--pips" ∷ digits ∷ more)
    unfolding clap_on_literals
    pips_lead = option_leads build_app (codes "pips") (codes "--pips") digits digits_plain refl refl
        refl refl (ap (λ b. b && true) accepted) (λ more. refl) (λ more. refl)

    pub build_takes : takes build_app (codes "--pips" ∷ digits ∷ path ∷ []) ≡ true
    build_takes = file_takes pips_lead path plain refl

    pub build_path : first_of (codes "FILE") (matches_of build_app
        (codes "--pips" ∷ digits ∷ path ∷ [])) ≡ Some path
    build_path = file_finds pips_lead path plain (first_of (codes "FILE"))

    pub build_one : one_of (codes "pips") (matches_of build_app
        (codes "--pips" ∷ digits ∷ path ∷ [])) ≡ Some (without_minus digits)
    build_one = file_finds pips_lead path plain (one_of (codes "pips"))

-- ---- query --cache N FILE

module _ (digits path : Text) (digits_plain : IsPlain digits)
    (accepted : accepts false (vp.Signed (pos 1) (pos 65535)) digits ≡ true) (plain : IsPlain path)
  where
    cache_leads : Leads query_app (value_held (codes "cache") digits)
        (λ more. codes "--cache" ∷ digits ∷ more)
    unfolding clap_on_literals
    cache_leads = option_leads query_app (codes "cache") (codes "--cache") digits digits_plain refl
        refl refl refl (ap (λ b. b && true) accepted) (λ more. refl) (λ more. refl)

    pub query_takes : takes query_app (codes "--cache" ∷ digits ∷ path ∷ []) ≡ true
    query_takes = file_takes cache_leads path plain refl

    pub query_path : first_of (codes "FILE") (matches_of query_app
        (codes "--cache" ∷ digits ∷ path ∷ [])) ≡ Some path
    query_path = file_finds cache_leads path plain (first_of (codes "FILE"))

    pub query_one : one_of (codes "cache") (matches_of query_app
        (codes "--cache" ∷ digits ∷ path ∷ [])) ≡ Some (without_minus digits)
    query_one = file_finds cache_leads path plain (one_of (codes "cache"))
