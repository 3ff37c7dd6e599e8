-- For the word - the lines are the whole input.
use Rattle.std.proofs.Common.{◌≡◌, ◌∙◌, inr, ℕ, ◌<◌, List, Option, length, take, ap, subst, sym, arith}
use Rattle.std.proofs.Common.{codes, length-take, IfOk}
use Rattle.std.specs.Str.{IsTrimAscii}
use Rattle.std.proofs.lemmas.List.{take_all}
use Rattle.std.proofs.lemmas.Slice.Eq.{bytes_eq-Decides}
use Rattle.std.proofs.lemmas.Result.{IfErr-weaker, on_ok_weaker}
use Rattle.db_reader.specs.Telling.{WhereTold}
use Rattle.race_model.specs.Prelude.{Throw}
use Rattle.db_layout.specs.declared.stated.Kind.{Kind}
use Rattle.race_summary.specs.declared.lines.Form.{Form}
use Rattle.bearoff_cli.specs.Shows.{ShowsWords}
use Rattle.bearoff_cli.proofs.show.show_file.Given.{Over}
use Rattle.bearoff_cli.proofs.show.show_file.Goals.{After-show_accepted}
use Rattle.bearoff_cli.proofs.show.show_file.Goals as goal

-- so many bytes of an input are all of it, if there are fewer
all_read : (n : ℕ) (input : Option (List ℕ)) (bytes lines : List ℕ)
    → WhereTold input (λ left. bytes ≡ take n left) → length bytes < n → lines ≡ bytes
    → WhereTold input (λ given. lines ≡ given)
all_read n input bytes lines read few same left is = same ∙ read left is
    ∙ take_all n left (omega (arith, few, ap length (read left is), length-take n left))

-- what was written of the lines of the input was written of these words
module _ (g : Over) (c : After-show_accepted g) where
  of_input : {Says : Kind × List ℕ → Option Throw → Form → List ℕ → Type 0}
      → Says (c.stated_kind-kind.result, c.args.file.now) c.args.wish.now.roll c.args.wish.now.form
      c.as_slice.result.now → ShowsWords Says c.args.file.now c.args.wish.now.roll
      c.args.wish.now.form c.args.lines.now (g.I.Read.remaining c.args.input.now)
      (g.I.Read.remaining c.read_bytes.new.file)
  of_input {Says} says =
      let words = c.args.lines.now in
      let is_input : c.trim_ascii.result.now ≡ codes "-" =
      (bytes_eq-Decides c.trim_ascii.result.now (codes "-")).0 (sym c.eq.ensures ∙ c.if-eq.true) in
      record {
        right = (c.in_ok-accepted.ensures {u = tt}).accepted.right;
        lines = c.as_slice.result.now;
        given = inr (
          subst (IsTrimAscii words) is_input c.trim_ascii.ensures.value,
          all_read 20000001 _ c.in-Ok.read.items c.as_slice.result.now
              (subst (λ r. WhereTold (g.I.Read.remaining c.args.input.now) (λ left. IfOk r
              (λ bytes. bytes.items ≡ take 20000001 left))) c.in-Ok.is c.read_bytes.ensures.read)
              (omega (arith, c.len.ensures, c.if-len-ge-MOST_BYTES.false)) c.as_slice.ensures.value,
        );
        says = subst (λ kind. Says (kind, c.args.file.now) c.args.wish.now.roll
            c.args.wish.now.form c.as_slice.result.now) c.stated_kind-kind.ensures says;
      }

pub returns-else-len-ge-MOST_BYTES-clause-shown : goal.returns-else-len-ge-MOST_BYTES-clause-shown
returns-else-len-ge-MOST_BYTES-clause-shown g c =
    on_ok_weaker c.show_accepted.result (of_input g
    (goal.at.returns-else-len-ge-MOST_BYTES-clause-shown g c).After-show_accepted)
    c.show_accepted.ensures.shown

pub returns-else-len-ge-MOST_BYTES-clause-left : goal.returns-else-len-ge-MOST_BYTES-clause-left
returns-else-len-ge-MOST_BYTES-clause-left g c =
    IfErr-weaker c.show_accepted.result _ _ (λ fault says. inr (of_input g
    (goal.at.returns-else-len-ge-MOST_BYTES-clause-left g c).After-show_accepted says))
    c.show_accepted.ensures.left
