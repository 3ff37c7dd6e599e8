-- What is shown of a line comes behind what is shown of those before it.
use Rattle.std.proofs.Common.{◌≡◌, ◌∙◌, ℕ, ◌+◌, ◌<◌, Bool, false, ◌||◌, List, [], ◌∷◌, ◌++◌, length, Option, None, Some}
use Rattle.std.proofs.Common.{Bor, Err, ap, arith, append_assoc, inr, refl, rules, sym, IfSome, MatchOption}
use Rattle.std.proofs.Math.Bool.{or_assoc, or-false}
use Rattle.std.proofs.lemmas.List.{append-nil}
use Rattle.std.proofs.KnownBytes.{Appends-trans}
use Rattle.db_layout.specs.declared.stated.Kind.{Kind}
use Rattle.race_model.specs.Prelude.{Throw}
use Rattle.race_summary.specs.Shown.{IsShown}
use Rattle.race_summary.specs.declared.lines.Form.{Form}
use Rattle.bearoff_cli.specs.Shows.{AreShown, parts_of}
use Rattle.db_layout.proofs.Known.{appends_kept}
use Rattle.query_text.proofs.Held.{part_after, part_all}
use Rattle.bearoff_cli.proofs.show.show_lines.Invariants.{left, left_bytes}
use Rattle.bearoff_cli.proofs.show.show_lines.Goals as goal

-- what is shown of lines, and of one more
shown_more : (opened : Kind × List ℕ) (roll : Option Throw) (form : Form) (lines : List (List ℕ))
    (line : List ℕ) (some has : Bool) (text more : List ℕ)
    → AreShown opened roll form lines some text
    → IsShown opened line roll form has more
    → AreShown opened roll form (lines ++ line ∷ []) (some || has) (text ++ more)
shown_more opened roll form [] line some has text more a b = (
  has,
  false,
  more,
  [],
  b,
  (refl, refl),
  ap (λ t. t || has) a.0 ∙ sym (or-false has),
  ap (λ t. t ++ more) a.1 ∙ sym (append-nil more),
)
shown_more opened roll form (x ∷ lines) line some has text more a b = (
  a.0,
  a.1 || has,
  a.2,
  a.3 ++ more,
  a.4,
  shown_more opened roll form lines line a.1 has a.3 more a.5 b,
  ap (λ t. t || has) a.6 ∙ or_assoc a.0 a.1 has,
  ap (λ t. t ++ more) a.7 ∙ append_assoc a.2 a.3 more,
)

-- fewer bytes are left after a line
shorter : (rest : Option (Bor (List ℕ))) (n : ℕ) → IfSome rest (λ it. length it.now < n)
    → left_bytes rest < n + 1
shorter None n it = omega arith
shorter (Some bytes) n it = omega (arith, it)

-- the lines that are left are the first one and those after it
first_left : (line text : List ℕ) (rest : Option (Bor (List ℕ)))
    → MatchOption rest (parts_of text ≡ line ∷ []) (λ it. parts_of text ≡ line ∷ parts_of it.now)
    → parts_of text ≡ line ∷ left rest
first_left line text None it = it
first_left line text (Some bytes) it = it

pub loop-rest-smaller : goal.loop-rest-smaller
loop-rest-smaller g c = omega (
  arith,
  shorter c.first_line.result.1 (length c.in-Some.bytes.now) c.first_line.ensures.shorter,
  ap left_bytes c.in-Some.is,
)

pub loop-rest-preserved : goal.loop-rest-preserved
loop-rest-preserved g c =
    let before = c.loop-rest.invariant in
    let line = c.first_line.result.0.now in
    let rest = c.first_line.result.1 in
    let shown = (c.in_ok-is_shown.ensures {u = tt}).shown in (
      before.0 ++ line ∷ [],
      before.1 ++ shown.0,
      shown_more c.args.opened.now c.args.wish.now.roll c.args.wish.now.form before.0 line
          c.loop-rest.is_answered c.in_ok-is_shown.is_shown before.1 shown.0 before.2 shown.1,
      before.3
          ∙ ap (λ parts. before.0 ++ parts) (ap left c.in-Some.is
          ∙ first_left line c.in-Some.bytes.now rest c.first_line.ensures.lines)
          ∙ sym (append_assoc before.0 (line ∷ []) (left rest)),
      Appends-trans _ _ _ before.1 shown.0 before.4 shown.2,
    )

pub returns-in_err-is_shown-clause-left : goal.returns-in_err-is_shown-clause-left
returns-in_err-is_shown-clause-left g c =
    let same : c.from_residual.result ≡ Err c.in_err-is_shown.field-0.0 = search rules in
    let before = c.loop-rest.invariant in
    let line = c.first_line.result.0.now in
    let rest = c.first_line.result.1 in
    let ends = c.in_err-is_shown.ensures {u = tt} in
    let part = ends.left in
    rw same (inr (
      ends.cause,
      record {
        before = before.0;
        after = line ∷ left rest;
        are = before.3 ∙ ap (λ parts. before.0 ++ parts) (ap left c.in-Some.is
            ∙ first_left line c.in-Some.bytes.now rest c.first_line.ensures.lines);
        some = c.loop-rest.is_answered;
        text = before.1;
        shown = before.2;
        next = part.0;
        first = part.1;
        written = part_after _ _ _ before.1 part.0 before.4 part.2;
      },
    ))

pub returns-in_err-flush-clause-left : goal.returns-in_err-flush-clause-left
returns-in_err-flush-clause-left g c =
    let same : c.from_residual-in_err-flush.result ≡ Err c.in_err-flush.field-0.0 = search rules in
    let before = c.loop-rest.invariant in
    let none : left c.loop-rest.rest ≡ [] = search rules in
    let ends = c.in_err-flush.ensures {u = tt} in
    rw same (inr (
      ends.cause,
      record {
        before = before.0;
        after = [];
        are = before.3 ∙ ap (λ parts. before.0 ++ parts) none;
        some = c.loop-rest.is_answered;
        text = before.1;
        shown = before.2;
        next = [];
        first = refl;
        written = part_all _ _ (before.1 ++ []) (Appends-trans _ _ _ before.1 [] before.4
            (appends_kept _ _ ends.kept));
      },
    ))
