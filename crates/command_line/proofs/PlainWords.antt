-- The commands, on words that do not begin with a hyphen.
use Rattle.std.proofs.Common.{◌≡◌, ◌∙◌, ◌==◌, ◌&&◌, ◌||◌, cond, is_some, not, ℕ, Bool, true, false, refl, sym, ap, ap₂}
use Rattle.std.proofs.Common.{List, [], ◌∷◌, Option, Some, None, Result, Ok, Err, IsErr}
use Rattle.std.proofs.Common.{IsErrAnd, codes, ◌++◌, append_assoc, append-nil, option_and_then, option_map, fold}
use Rattle.std.specs.List.{list_all}
use Rattle.std.specs.Str.{bytes_eq}
use Rattle.clap.specs.Lexer.{long_of, long_of_rest, short_of, short_of_rest, strip_byte}
use Rattle.clap.specs.Words.{Text, all_of, one_of, one_text, first_of, first_value, found_of, is_simple, matched_of}
use Rattle.clap.specs.Words.{HasMatchesOf, App, built, matches_of, raw_values, takes, Row}
use Rattle.clap.specs.Simple.{Shape, entered, filled}
use Rattle.std.specs.Option.{option_map_or}
use Rattle.clap.specs.Walk.{Held, Rule, Step, Waiting, Walk, idle, value, trailing, after_step, arg_by_index, finished}
use Rattle.clap.specs.Walk.{long_or_other, nothing_held, plain_word, short_or_plain, subcommand_met}
use Rattle.clap.specs.Walk.{subcommand_or_other, to_positional, walk, walk_from, walked, word_met, positional}
use Rattle.clap.specs.Walk.{reading_by, used}
use Rattle.clap.specs.Takes.{bundle_passes, default_passes, entered_passes, flag_word_passes, is_valid, other_passes}
use Rattle.clap.specs.Takes.{settle_passes, step_passes, turn_passes, walk_passes, word_passes}
use Rattle.clap.specs.declared.parser.matches.ArgMatches.{ArgMatches}
use Rattle.clap.proofs.WalkLemmas.{first_value-rows, one_text-rows, raw_values-rows}
use Rattle.command_line.specs.declared.words.WordsError.{WordsError}
use Rattle.command_line.specs.declared.words.WordsError.TheVariants.{OutOfMemory}
use Rattle.command_line.specs.Asked.{Gives, IsPlain, ArePlain}
use Rattle.command_line.specs.Commands.{about_app, upgrade_app, ask_app, word_rule, words_rule}
use Rattle.std.proofs.Math.Bool.{and-eq-true_iff}
use Rattle.clap.specs.declared.parser.matches.ValueSource.TheVariants.{CommandLine}
use Rattle.clap.proofs.OnLiterals.{clap_on_literals}

-- what a `?` that fails for want of memory leaves
pub memory_left : {X : Type 0} (r : Result X WordsError) (e : WordsError) (P : X → Type 0)
    → IsErr r × IsErrAnd r (λ x. x ≡ e) → e ≡ OutOfMemory → Gives r P
memory_left (Ok x) e P left is = absurd left.1
memory_left (Err x) e P left is = (tt, left.1 ∙ is)

-- what is not true is false
pub is_false : (b : Bool) → not b ≡ true → b ≡ false
is_false true e = sym e
is_false false e = refl

-- ---- a word that does not begin with a hyphen

-- what both truth values give
pub either : {X : Type 0} (b : Bool) (f : Bool → X) (x : X) → f true ≡ x → f false ≡ x → f b ≡ x
either true f x is other = is
either false f x is other = other

pub no_dashes : (word : Text) → IsPlain word → bytes_eq word (45 ∷ 45 ∷ []) ≡ false
no_dashes [] e = refl
no_dashes (x ∷ []) e = either (x == 45) (λ b. b && false) false refl refl
no_dashes (x ∷ y ∷ xs) e = ap (λ b. b && bytes_eq (y ∷ xs) (45 ∷ [])) (is_false (x == 45) e)

pub no_long : (word : Text) → IsPlain word → long_of word ≡ None
no_long [] e = refl
no_long (x ∷ []) e = either (x == 45) (λ b. option_and_then long_of_rest
    (option_and_then (strip_byte 45) (cond b (Some []) None))) None refl refl
no_long (x ∷ y ∷ xs) e =
    ap (λ b. option_and_then long_of_rest
    (option_and_then (strip_byte 45) (cond b (Some (y ∷ xs)) None))) (is_false (x == 45) e)

pub no_short : (word : Text) → IsPlain word → short_of word ≡ None
no_short [] e = refl
no_short (x ∷ []) e = either (x == 45)
    (λ b. option_and_then short_of_rest (cond b (Some []) None)) None refl refl
no_short (x ∷ y ∷ xs) e =
    ap (λ b. option_and_then short_of_rest (cond b (Some (y ∷ xs)) None)) (is_false (x == 45) e)

-- a walk that waits for the positional at a place
abbrev pub walk_at : Held → ℕ → Walk
walk_at h n = record { held = h; waiting = idle; position = n; is_trailing = false; stopped = None }

module _ (word : Text) (plain : IsPlain word) where
  -- it is a value, where no option waits for one
  pub any_met : (w : Waiting) (c : List Rule) (n : ℕ) (h : Held) → subcommand_met [] w word ≡ None
      → plain_word c w word h ≡ (h, value) → word_met c [] false w n word h ≡ (h, value)
  any_met w c n h none is = ap (λ o. subcommand_or_other c o w n word h) none
      ∙ ap (λ b. cond b (h, trailing n) (long_or_other c w word (long_of word) h))
      (no_dashes word plain)
      ∙ ap (λ o. long_or_other c w word o h) (no_long word plain)
      ∙ ap (λ o. short_or_plain c w word o h) (no_short word plain) ∙ is

  pub plain_met : (c : List Rule) (n : ℕ) (h : Held) → word_met c [] false idle n word h
      ≡ (h, value)
  plain_met c n h = any_met idle c n h refl refl

  pub plain_walked : (c : List Rule) (n : ℕ) (h : Held) → walked c [] (walk_at h n) word
      ≡ to_positional c (arg_by_index c n) word (walk_at h n) h
  unfolding walked
  plain_walked c n h =
      ap (λ (met : Held × Step). after_step c word (walk_at h n) met.0 met.1) (plain_met c n h)

  pub plain_passes : (w : Waiting) (s : Shape) (h : Held) → subcommand_met [] w word ≡ None
      → word_passes s [] false w word h ≡ true
  plain_passes w s h none = ap (λ o. other_passes s o word h) none
      ∙ ap (λ b. b || flag_word_passes s.rules s.args_override_self (long_of word) word h)
      (no_dashes word plain)
      ∙ ap (λ o. flag_word_passes s.rules s.args_override_self o word h) (no_long word plain)
      ∙ ap (λ o. option_map_or (λ flags. bundle_passes s.rules s.args_override_self flags h) o
      true) (no_short word plain)

  pub plain_turn : (s : Shape) (n : ℕ) (h : Held) → turn_passes s [] (walk_at h n) word
      ≡ step_passes s n h value
  plain_turn s n h =
      ap₂ (λ b (met : Held × Step). b && step_passes s n met.0 met.1) (plain_passes idle s h refl)
      (plain_met s.rules n h)

-- `takes` of a simple command, by its walk
abbrev pub taken : App → Bool → Walk → Bool
taken a passes w = entered_passes a w.stopped && (passes
    && (settle_passes a.top.rules a.top.args_override_self w.held
    && (list_all default_passes a.top.rules
    && is_valid a.top (finished a.top.rules w.held) (is_some (entered a w.stopped)))))

-- ---- words that lead to what is held, and then a file

-- what a simple command takes and finds is told by its walk, which holds this behind its words,
-- and passes over them and a first value
pub record Leads (app : App) (held : Held) (words : List Text → List Text) : Type 0 where
  pub takes_by : (more : List Text) → takes app (words more) ≡ taken (built app)
      (walk_passes (built app).top [] (walk_from nothing_held) (words more))
      (walk (built app).top.rules [] nothing_held (words more))
  pub finds_by : (more : List Text) → matches_of app (words more) ≡ finished (built app).top.rules
      (walk (built app).top.rules [] nothing_held (words more)).held
  pub walks : (more : List Text) → walk (built app).top.rules [] nothing_held (words more)
      ≡ fold (walked (built app).top.rules []) (walk_at held 1) more
  pub passes : (more : List Text) → walk_passes (built app).top [] (walk_at held 1) more ≡ true
      → walk_passes (built app).top [] (walk_from nothing_held) (words more) ≡ true
  pub turn : step_passes (built app).top 1 held value ≡ true

module _ {app : App} {held : Held} {words : List Text → List Text} (leads : Leads app held words)
    (path : Text) (plain : IsPlain path) where
  -- the walk over the words and the file
  abbrev pub file_walk : Walk
  file_walk = to_positional (built app).top.rules (arg_by_index (built app).top.rules 1) path
      (walk_at held 1) held

  file_walked : walk (built app).top.rules [] nothing_held (words (path ∷ [])) ≡ file_walk
  file_walked =
      leads.walks (path ∷ []) ∙ plain_walked path plain (built app).top.rules 1 held

  file_passes : walk_passes (built app).top [] (walk_from nothing_held) (words (path ∷ [])) ≡ true
  unfolding walk_passes
  file_passes = leads.passes (path ∷ [])
      (ap (λ b. b && true) (plain_turn path plain (built app).top 1 held ∙ leads.turn))

  -- the command takes them, where its rules accept what was found
  pub file_takes : taken (built app) true file_walk ≡ true → takes app (words (path ∷ [])) ≡ true
  file_takes accepted = leads.takes_by (path ∷ [])
      ∙ ap₂ (taken (built app)) file_passes file_walked ∙ accepted

  -- what was found is what the walk ends with
  pub file_finds : {X : Type 0} (f : List Row → X) → f (matches_of app (words (path ∷ [])))
      ≡ f (finished (built app).top.rules file_walk.held)
  file_finds f = ap f (leads.finds_by (path ∷ []))
      ∙ ap (λ (w : Walk). f (finished (built app).top.rules w.held)) file_walked

-- ---- a file of any kind

about_leads : Leads about_app nothing_held (λ more. more)
about_leads = record {
  takes_by = λ more. refl;
  finds_by = λ more. refl;
  walks = λ more. refl;
  passes = λ more is. is;
  turn = refl;
}

module _ (path : Text) (plain : IsPlain path) where
  pub about_takes : takes about_app (path ∷ []) ≡ true
  about_takes = file_takes about_leads path plain refl

  pub about_first : first_of (codes "FILE") (matches_of about_app (path ∷ [])) ≡ Some path
  about_first = file_finds about_leads path plain (first_of (codes "FILE"))

-- ---- two files

module _ (old new : Text) (old_plain : IsPlain old) (new_plain : IsPlain new) where
  abbrev upgrade_built : App
  upgrade_built = built upgrade_app

  abbrev rules : List Rule
  rules = upgrade_built.top.rules

  abbrev old_held : Held
  old_held = record { rows = []; pending = Some (codes "OLD", old ∷ []); skip = 0 }

  old_walked : walked rules [] (walk_from nothing_held) old ≡ walk_at old_held 2
  old_walked = plain_walked old old_plain rules 1 nothing_held

  abbrev upgrade_walk : Walk
  upgrade_walk = to_positional rules (arg_by_index rules 2) new (walk_at old_held 2) old_held

  upgrade_walked : walk rules [] nothing_held (old ∷ new ∷ []) ≡ upgrade_walk
  upgrade_walked =
      ap (λ w. walked rules [] w new) old_walked ∙ plain_walked new new_plain rules 2 old_held

  upgrade_passes : walk_passes upgrade_built.top [] (walk_from nothing_held) (old ∷ new ∷ []) ≡ true
  unfolding walk_passes
  upgrade_passes =
      ap₂ (λ a b. a && (b && true)) (plain_turn old old_plain upgrade_built.top 1 nothing_held)
      (ap (λ w. turn_passes upgrade_built.top [] w new) old_walked
      ∙ plain_turn new new_plain upgrade_built.top 2 old_held)

  pub upgrade_takes : takes upgrade_app (old ∷ new ∷ []) ≡ true
  upgrade_takes = ap₂ (taken upgrade_built) upgrade_passes upgrade_walked

  pub old_first : first_of (codes "OLD") (matches_of upgrade_app (old ∷ new ∷ [])) ≡ Some old
  old_first = ap (λ (w : Walk). first_of (codes "OLD") (finished rules w.held)) upgrade_walked

  pub new_first : first_of (codes "NEW") (matches_of upgrade_app (old ∷ new ∷ [])) ≡ Some new
  new_first = ap (λ (w : Walk). first_of (codes "NEW") (finished rules w.held)) upgrade_walked

-- ---- from the matches to the getters

pub first_read : (a b : App) (words : List Text) (m : ArgMatches) (id : Text) → a ≡ b
    → is_simple b ≡ true → HasMatchesOf a words m
    → first_value (found_of m) id ≡ first_of id (matches_of b words)
first_read a b words m id same simple has = first_value-rows (found_of m) id
    ∙ ap (first_of id)
    ((has (ap is_simple same ∙ simple)).0 ∙ ap (λ (x : App). matches_of x words) same)

pub one_read : (a b : App) (words : List Text) (m : ArgMatches) (id : Text) → a ≡ b → is_simple b
    ≡ true → HasMatchesOf a words m
    → one_text (found_of m) id ≡ one_of id (matches_of b words)
one_read a b words m id same simple has = one_text-rows (found_of m) id
    ∙ ap (one_of id)
    ((has (ap is_simple same ∙ simple)).0 ∙ ap (λ (x : App). matches_of x words) same)

-- from the matches of words that are given to the getters
pub first_from : (a b : App) (words given : List Text) (m : ArgMatches) (id text : Text) → a ≡ b
    → is_simple b ≡ true → HasMatchesOf a words m → words ≡ given
    → first_of id (matches_of b given) ≡ Some text → first_value (found_of m) id ≡ Some text
first_from a b words given m id text same simple has are is =
    first_read a b words m id same simple has ∙ ap (λ ws. first_of id (matches_of b ws)) are ∙ is

pub one_from : (a b : App) (words given : List Text) (m : ArgMatches) (id : Text)
    (one : Option Text) → a ≡ b → is_simple b ≡ true → HasMatchesOf a words m → words ≡ given
    → one_of id (matches_of b given) ≡ one → one_text (found_of m) id ≡ one
one_from a b words given m id one same simple has are is =
    one_read a b words m id same simple has ∙ ap (λ ws. one_of id (matches_of b ws)) are ∙ is

pub all_from : (a b : App) (words given : List Text) (m : ArgMatches) (id : Text)
    (values : List Text) → a ≡ b → is_simple b ≡ true → HasMatchesOf a words m → words ≡ given
    → all_of id (matches_of b given) ≡ Some values
    → option_map raw_values (matched_of (found_of m) id) ≡ Some values
all_from a b words given m id values same simple has are is = raw_values-rows (found_of m) id
    ∙ ap (all_of id)
    ((has (ap is_simple same ∙ simple)).0 ∙ ap (λ (x : App). matches_of x words) same)
    ∙ ap (λ ws. all_of id (matches_of b ws)) are ∙ is

-- ---- Values of an argument that may be repeated, none of which begins with a hyphen

-- the rows once some values were met behind others
abbrev pub seen_rows : List Row → Text → List Text → List Row
seen_rows rows id [] = rows
seen_rows rows id (first ∷ rest) = rows ++ record {
  id = id;
  values = first ∷ rest;
  count = None;
  source = Some CommandLine;
  reading = reading_by (filled (words_rule id));
} ∷ []

-- the walk once some values were met, and then a last one
abbrev pub seen_walk : List Row → Text → ℕ → List Text → Text → Walk
seen_walk rows id n seen last = record {
  held = record { rows = seen_rows rows id seen; pending = Some (id, last ∷ []); skip = 0 };
  waiting = positional;
  position = n;
  is_trailing = false;
  stopped = None;
}

module _ (app : App) (seen_to : List Text → Text → Walk)
    (one_walked : (seen : List Text) (last line : Text) → IsPlain line
    → walked (built app).top.rules [] (seen_to seen last) line ≡ seen_to (seen ++ last ∷ []) line)
    (one_turn : (seen : List Text) (last line : Text) → IsPlain line
    → turn_passes (built app).top [] (seen_to seen last) line ≡ true) where
  -- several more
  pub all_walked : (seen : List Text) (last : Text) (more : List Text) → ArePlain more
      → (before : List Text) × (end : Text)
      × (fold (walked (built app).top.rules []) (seen_to seen last) more ≡ seen_to before end)
      × (before ++ end ∷ [] ≡ (seen ++ last ∷ []) ++ more)
  all_walked seen last [] plain = (seen, last, refl, sym (append-nil (seen ++ last ∷ [])))
  all_walked seen last (line ∷ more) plain =
      let both = (and-eq-true_iff _ _).0 plain in
      let later = all_walked (seen ++ last ∷ []) line more both.1 in (
        later.0,
        later.1,
        ap (λ w. fold (walked (built app).top.rules []) w more) (one_walked seen last line both.0)
            ∙ later.2,
        later.3 ∙ append_assoc (seen ++ last ∷ []) (line ∷ []) more,
      )

  pub all_pass : (seen : List Text) (last : Text) (more : List Text) → ArePlain more
      → walk_passes (built app).top [] (seen_to seen last) more ≡ true
  unfolding walk_passes
  all_pass seen last [] plain = refl
  all_pass seen last (line ∷ more) plain =
      let both = (and-eq-true_iff _ _).0 plain in
      ap₂ (λ a b. a && b) (one_turn seen last line both.0)
      (ap (λ w. walk_passes (built app).top [] w more) (one_walked seen last line both.0)
      ∙ all_pass (seen ++ last ∷ []) line more both.1)

-- ---- A file and lines

abbrev ask_built : App
ask_built = built ask_app

abbrev line_rules : List Rule
line_rules = ask_built.top.rules

module _ (path : Text) where
  -- what is held once the file was met
  abbrev file_held : Held
  file_held = record { rows = []; pending = Some (codes "FILE", path ∷ []); skip = 0 }

  -- the walk once some lines were met, and then a last one
  abbrev line_walk : List Text → Text → Walk
  line_walk = seen_walk (used (filled (word_rule (codes "FILE"))) (path ∷ []) []) (codes "LINE") 2

  -- one more line
  line_walked : (seen : List Text) (last line : Text) → IsPlain line
      → walked line_rules [] (line_walk seen last) line ≡ line_walk (seen ++ last ∷ []) line
  unfolding walked clap_on_literals
  line_walked [] last line plain = ap
      (λ (met : Held × Step). after_step line_rules line (line_walk [] last) met.0 met.1)
      (any_met line plain positional line_rules 2 (line_walk [] last).held refl refl)
  line_walked (first ∷ rest) last line plain = ap
      (λ (m : Held × Step). after_step line_rules line (line_walk (first ∷ rest) last) m.0 m.1)
      (any_met line plain positional line_rules 2 (line_walk (first ∷ rest) last).held refl refl)

  -- the walk passes over one more line
  line_turn : (seen : List Text) (last line : Text) → IsPlain line
      → turn_passes ask_built.top [] (line_walk seen last) line ≡ true
  line_turn [] last line plain =
      ap₂ (λ b (met : Held × Step). b && step_passes ask_built.top 2 met.0 met.1)
      (plain_passes line plain positional ask_built.top (line_walk [] last).held refl)
      (any_met line plain positional line_rules 2 (line_walk [] last).held refl refl)
  line_turn (first ∷ rest) last line plain =
      ap₂ (λ b (met : Held × Step). b && step_passes ask_built.top 2 met.0 met.1)
      (plain_passes line plain positional ask_built.top (line_walk (first ∷ rest) last).held refl)
      (any_met line plain positional line_rules 2 (line_walk (first ∷ rest) last).held refl refl)

  -- what such a walk comes to
  end_taken : (seen : List Text) (last : Text) → taken ask_built true (line_walk seen last) ≡ true
  end_taken [] last = refl
  end_taken (first ∷ rest) last = refl

  end_file : (seen : List Text) (last : Text)
      → first_of (codes "FILE") (finished line_rules (line_walk seen last).held) ≡ Some path
  end_file [] last = refl
  end_file (first ∷ rest) last = refl

  end_lines : (s : List Text) (last : Text)
      → all_of (codes "LINE") (finished line_rules (line_walk s last).held) ≡ Some (s ++ last ∷ [])
  end_lines [] last = refl
  end_lines (first ∷ rest) last = refl

  module _ (plain : IsPlain path) (line : Text) (lines : List Text)
      (all : ArePlain (line ∷ lines)) where
    abbrev plains : IsPlain line × ArePlain lines
    plains = (and-eq-true_iff _ _).0 all

    ask_walked : walked line_rules [] (walk_from nothing_held) path ≡ walk_at file_held 2
    ask_walked = plain_walked path plain line_rules 1 nothing_held

    first_walked : walked line_rules [] (walk_at file_held 2) line ≡ line_walk [] line
    first_walked = plain_walked line plains.0 line_rules 2 file_held

    ask_end : (before : List Text) × (end : Text)
        × (walk line_rules [] nothing_held (path ∷ line ∷ lines) ≡ line_walk before end)
        × (before ++ end ∷ [] ≡ line ∷ lines)
    ask_end =
        let later = all_walked ask_app line_walk line_walked line_turn [] line lines plains.1 in (
          later.0,
          later.1,
          ap (λ w. fold (walked line_rules []) (walked line_rules [] w line) lines) ask_walked
              ∙ ap (λ w. fold (walked line_rules []) w lines) first_walked ∙ later.2,
          later.3,
        )

    ask_passes : walk_passes ask_built.top [] (walk_from nothing_held) (path ∷ line ∷ lines) ≡ true
    unfolding walk_passes
    ask_passes = ap₂ (λ a b. a && b) (plain_turn path plain ask_built.top 1 nothing_held)
        (ap₂ (λ a b. a && b)
        (ap (λ w. turn_passes ask_built.top [] w line) ask_walked
        ∙ plain_turn line plains.0 ask_built.top 2 file_held)
        (ap (λ w. walk_passes ask_built.top [] w lines)
        (ap (λ w. walked line_rules [] w line) ask_walked ∙ first_walked)
        ∙ all_pass ask_app line_walk line_walked line_turn [] line lines plains.1))

    -- `ask` takes the words
    pub ask_takes : takes ask_app (path ∷ line ∷ lines) ≡ true
    ask_takes = ap₂ (taken ask_built) ask_passes ask_end.2 ∙ end_taken ask_end.0 ask_end.1

    -- `ask` gives the file
    pub ask_file : first_of (codes "FILE") (matches_of ask_app (path ∷ line ∷ lines)) ≡ Some path
    ask_file = ap (λ (w : Walk). first_of (codes "FILE") (finished line_rules w.held)) ask_end.2
        ∙ end_file ask_end.0 ask_end.1

    -- `ask` gives the lines
    pub ask_lines : all_of (codes "LINE") (matches_of ask_app (path ∷ line ∷ lines))
        ≡ Some (line ∷ lines)
    ask_lines = ap (λ (w : Walk). all_of (codes "LINE") (finished line_rules w.held)) ask_end.2
        ∙ end_lines ask_end.0 ask_end.1 ∙ ap Some ask_end.3
