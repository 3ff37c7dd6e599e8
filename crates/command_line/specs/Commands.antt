-- What `clap` reads of the commands.
use Rattle.std.specs.Prelude.{true, codes, Some, pos}
use Rattle.clap.specs.Words.{App, Rule, Text, new_app, new_rule, with_rule}
use Rattle.clap.specs.Simple.{on_top}
use Rattle.clap.specs.declared.builder.action.ArgAction.TheVariants.{Append, SetTrue}
use Rattle.clap.specs.declared.builder.value_parser.ValueParser.TheVariants as vp

-- a required word
abbrev pub word_rule : Text → Rule
word_rule id = record (new_rule id) { required = true }

-- a command of this name without words, which reads no name of a program before them
abbrev pub bare_app : Text → App
bare_app name = on_top (λ s. record s { no_binary_name = true }) (new_app name)

-- the flag `--board`
abbrev pub board_rule : Rule
board_rule =
    record (new_rule (codes "board")) { long = Some (codes "board"); action = Some SetTrue }

-- `NAME --board FILE`
abbrev pub file_app : Text → App
file_app name = with_rule (with_rule (bare_app name) board_rule) (word_rule (codes "FILE"))

-- a required word, or more of them, which are one argument
abbrev pub words_rule : Text → Rule
words_rule id = record (word_rule id) { action = Some Append }

-- `ask FILE LINE..`
abbrev pub ask_app : App
ask_app = with_rule (with_rule (bare_app (codes "ask")) (word_rule (codes "FILE")))
    (words_rule (codes "LINE"))

-- the flag `--json`
abbrev pub json_rule : Rule
json_rule = record (new_rule (codes "json")) { long = Some (codes "json"); action = Some SetTrue }

-- `show --json POSITION..`
abbrev pub show_app : App
show_app = with_rule (with_rule (bare_app (codes "show")) json_rule) (words_rule (codes "POSITION"))

-- `about FILE`
abbrev pub about_app : App
about_app = with_rule (bare_app (codes "about")) (word_rule (codes "FILE"))

-- `upgrade OLD NEW`
abbrev pub upgrade_app : App
upgrade_app = with_rule (with_rule (bare_app (codes "upgrade")) (word_rule (codes "OLD")))
    (word_rule (codes "NEW"))

-- `--pips N`: a number from 0 to 255
abbrev pub pips_rule : Rule
pips_rule = record (new_rule (codes "pips")) {
  long = Some (codes "pips");
  value_names = 1;
  parser = Some (vp.Signed (pos 0) (pos 255));
}

-- `build --pips N --board FILE`
abbrev pub build_app : App
build_app = with_rule (file_app (codes "build")) pips_rule

-- `--cache N`: a number from 1 to 65535
abbrev pub cache_rule : Rule
cache_rule = record (new_rule (codes "cache")) {
  long = Some (codes "cache");
  value_names = 1;
  parser = Some (vp.Signed (pos 1) (pos 65535));
}

-- `query --cache N --board FILE`
abbrev pub query_app : App
query_app = with_rule (file_app (codes "query")) cache_rule
