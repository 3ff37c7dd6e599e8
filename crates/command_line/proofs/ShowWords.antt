-- The words of `show`: `--json` or not, and positions.
use Rattle.std.proofs.Common.{◌≡◌, ◌∙◌, ◌&&◌, Bool, true, false, refl, ap, ap₂, Option, List, [], ◌∷◌}
use Rattle.std.proofs.Common.{◌++◌, Some, None, codes, fold}
use Rattle.std.proofs.Math.Bool.{and-eq-true_iff}
use Rattle.clap.specs.Words.{Row, Rule, Text, all_of, built, matches_of, one_of, takes, App}
use Rattle.clap.specs.Simple.{filled}
use Rattle.clap.specs.Walk.{Held, Step, Walk, after_step, finished, nothing_held, positional, used, value, walk}
use Rattle.clap.specs.Walk.{walk_from, walked}
use Rattle.clap.specs.Takes.{step_passes, turn_passes, walk_passes}
use Rattle.clap.proofs.OnLiterals.{clap_on_literals}
use Rattle.command_line.specs.Asked.{ArePlain, IsPlain, formed}
use Rattle.command_line.specs.Commands.{json_rule, show_app}
use Rattle.command_line.proofs.PlainWords.{all_pass, all_walked, any_met, plain_passes, plain_turn, plain_walked}
use Rattle.command_line.proofs.PlainWords.{Leads, seen_walk, taken, walk_at}

abbrev show_built : App
show_built = built show_app

abbrev show_rules : List Rule
show_rules = show_built.top.rules

-- what is held before the positions
abbrev form_rows : Bool → List Row
form_rows false = []
form_rows true = used (filled json_rule) [] []

abbrev form_held : Bool → Held
form_held is_json = record { rows = form_rows is_json; pending = None; skip = 0 }

-- the text that the flag's value is read of
abbrev pub form_text : Bool → Text
form_text false = codes "false"
form_text true = codes "true"

-- the flag is told by that text
pub flag_is : (is_json result : Bool) (one : Option Text) → one ≡ Some (form_text is_json)
    → (one ≡ Some (codes "true") → result ≡ true) → (one ≡ Some (codes "false") → result ≡ false)
    → result ≡ is_json
flag_is false result one is on off = off is
flag_is true result one is on off = on is

-- the walk once some positions were met, and then a last one
abbrev shown_walk : Bool → List Text → Text → Walk
shown_walk is_json = seen_walk (form_rows is_json) (codes "POSITION") 1

shown_step : (is_json : Bool) (seen : List Text) (last line : Text)
    → after_step show_rules line (shown_walk is_json seen last) (shown_walk is_json seen last).held
    value ≡ shown_walk is_json (seen ++ last ∷ []) line
unfolding clap_on_literals
shown_step false [] last line = refl
shown_step false (first ∷ rest) last line = refl
shown_step true [] last line = refl
shown_step true (first ∷ rest) last line = refl

step_is_passed : (is_json : Bool) (seen : List Text) (last : Text)
    → step_passes show_built.top 1 (shown_walk is_json seen last).held value ≡ true
unfolding clap_on_literals
step_is_passed false [] last = refl
step_is_passed false (first ∷ rest) last = refl
step_is_passed true [] last = refl
step_is_passed true (first ∷ rest) last = refl

module _ (is_json : Bool) where
  -- one more position
  shown_walked : (seen : List Text) (last line : Text) → IsPlain line → walked show_rules []
      (shown_walk is_json seen last) line ≡ shown_walk is_json (seen ++ last ∷ []) line
  unfolding walked
  shown_walked seen last line plain = ap (λ (met : Held × Step).
      after_step show_rules line (shown_walk is_json seen last) met.0 met.1)
      (any_met line plain positional show_rules 1 (shown_walk is_json seen last).held refl refl)
      ∙ shown_step is_json seen last line

  shown_turn : (seen : List Text) (last line : Text) → IsPlain line
      → turn_passes show_built.top [] (shown_walk is_json seen last) line ≡ true
  shown_turn seen last line plain =
      let held = (shown_walk is_json seen last).held in
      ap₂ (λ b (met : Held × Step). b && step_passes show_built.top 1 met.0 met.1)
      (plain_passes line plain positional show_built.top held refl)
      (any_met line plain positional show_rules 1 held refl refl)
      ∙ step_is_passed is_json seen last

first_walked : (is_json : Bool) (line : Text) → IsPlain line
    → walked show_rules [] (walk_at (form_held is_json) 1) line ≡ shown_walk is_json [] line
unfolding clap_on_literals
first_walked false line plain = plain_walked line plain show_rules 1 (form_held false)
first_walked true line plain = plain_walked line plain show_rules 1 (form_held true)

-- what such a walk comes to
end_taken : (is_json : Bool) (seen : List Text) (last : Text)
    → taken show_built true (shown_walk is_json seen last) ≡ true
unfolding clap_on_literals
end_taken false [] last = refl
end_taken false (first ∷ rest) last = refl
end_taken true [] last = refl
end_taken true (first ∷ rest) last = refl

end_form : (is_json : Bool) (seen : List Text) (last : Text) → one_of (codes "json")
    (finished show_rules (shown_walk is_json seen last).held) ≡ Some (form_text is_json)
unfolding clap_on_literals
end_form false [] last = refl
end_form false (first ∷ rest) last = refl
end_form true [] last = refl
end_form true (first ∷ rest) last = refl

end_positions : (is_json : Bool) (seen : List Text) (last : Text) → all_of (codes "POSITION")
    (finished show_rules (shown_walk is_json seen last).held) ≡ Some (seen ++ last ∷ [])
unfolding clap_on_literals
end_positions false [] last = refl
end_positions false (first ∷ rest) last = refl
end_positions true [] last = refl
end_positions true (first ∷ rest) last = refl

form_leads : (is_json : Bool) → Leads show_app (form_held is_json) (formed is_json)
unfolding clap_on_literals
form_leads false = record {
  takes_by = λ more. refl;
  finds_by = λ more. refl;
  walks = λ more. refl;
  passes = λ more is. is;
  turn = refl;
}
form_leads true = record {
  takes_by = λ more. refl;
  finds_by = λ more. refl;
  walks = λ more. refl;
  passes = λ more is. is;
  turn = refl;
}

module _ (is_json : Bool) (line : Text) (lines : List Text) (all : ArePlain (line ∷ lines)) where
  abbrev each_plain : IsPlain line × ArePlain lines
  each_plain = (and-eq-true_iff _ _).0 all

  show_end : (before : List Text) × (end : Text)
      × (walk show_rules [] nothing_held (formed is_json (line ∷ lines))
      ≡ shown_walk is_json before end) × (before ++ end ∷ [] ≡ line ∷ lines)
  show_end =
      let later = all_walked show_app (shown_walk is_json) (shown_walked is_json)
      (shown_turn is_json) [] line lines each_plain.1 in (
        later.0,
        later.1,
        (form_leads is_json).walks (line ∷ lines) ∙ ap (λ w. fold (walked show_rules []) w lines)
            (first_walked is_json line each_plain.0) ∙ later.2,
        later.3,
      )

  show_passes : walk_passes show_built.top [] (walk_from nothing_held)
      (formed is_json (line ∷ lines)) ≡ true
  unfolding walk_passes
  show_passes = (form_leads is_json).passes (line ∷ lines)
      (ap₂ (λ a b. a && b) (plain_turn line each_plain.0 show_built.top 1 (form_held is_json)
      ∙ (form_leads is_json).turn)
      (ap (λ w. walk_passes show_built.top [] w lines) (first_walked is_json line each_plain.0)
      ∙ all_pass show_app (shown_walk is_json) (shown_walked is_json) (shown_turn is_json) [] line
      lines each_plain.1))

  -- `show` takes the words
  pub show_takes : takes show_app (formed is_json (line ∷ lines)) ≡ true
  show_takes =
      ap₂ (taken show_built) show_passes show_end.2 ∙ end_taken is_json show_end.0 show_end.1

  -- `show` gives the positions
  pub show_positions : all_of (codes "POSITION")
      (matches_of show_app (formed is_json (line ∷ lines))) ≡ Some (line ∷ lines)
  show_positions =
      ap (λ (w : Walk). all_of (codes "POSITION") (finished show_rules w.held)) show_end.2
      ∙ end_positions is_json show_end.0 show_end.1 ∙ ap Some show_end.3

  -- `show` gives the flag
  pub show_form : one_of (codes "json") (matches_of show_app (formed is_json (line ∷ lines)))
      ≡ Some (form_text is_json)
  show_form = ap (λ (w : Walk). one_of (codes "json") (finished show_rules w.held)) show_end.2
      ∙ end_form is_json show_end.0 show_end.1
