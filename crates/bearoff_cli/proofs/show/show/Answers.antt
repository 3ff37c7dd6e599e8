-- A word names the file that was read.
use Rattle.std.proofs.Common.{ℕ, List, Option, None, Some, inl, inr, subst, sym, ⊎_elim}
use Rattle.std.specs.Option.{option_map}
use Rattle.std.proofs.lemmas.Result.{IfErr-weaker, on_ok_weaker}
use Rattle.race_model.specs.Prelude.{Throw}
use Rattle.db_layout.specs.declared.stated.Kind.{Kind}
use Rattle.race_summary.specs.declared.lines.Form.{Form}
use Rattle.race_summary.specs.Words.{IsSplit}
use Rattle.retrograde.specs.BuiltBoards.{IsBuiltBoard}
use Rattle.bearoff_cli.specs.FileAnswers.{IsReadFrom}
use Rattle.bearoff_cli.specs.Shows.{IsFileShown, ShowsTexts, ShowsWords}
use Rattle.bearoff_cli.proofs.show.show.Given.{Over}
use Rattle.bearoff_cli.proofs.show.show.Goals.{After-show_file}
use Rattle.bearoff_cli.proofs.show.show.Goals as goal

-- what was written of these words was written over the file that one of them names
module _ (g : Over) (c : After-show_file g) where
  abbrev From : List ℕ → List ℕ → Type 0
  From = IsReadFrom g.D.Reader.Read.remaining (g.D.Disk.paths c.args.disk.now)
      (g.D.Disk.told c.args.disk.now)

  abbrev shown_file : IsFileShown From c.args.words.now c.as_slice.result.now
  shown_file = (
    Some c.in-Some.path.now,
    c.split-given.result.lines.now,
    c.split-given.result.roll,
    subst (λ file. IsSplit c.args.words.now (option_map (λ path. path.now) file)
        c.split-given.result.lines.now c.split-given.result.roll) c.in-Some.is
        c.split-given.ensures,
    subst (From c.in-Some.path.now) (sym c.as_slice.ensures.value)
        (c.in_ok-file-in-Some.ensures {u = tt}).read,
  )

  of_file : {Says : Kind × List ℕ → Option Throw → Form → List ℕ → Type 0}
      → ShowsWords Says c.as_slice.result.now c.split-given.result.roll c.form_of.result
      c.split-given.result.lines.now (g.I.Read.remaining c.args.input.now)
      (g.I.Read.remaining c.show_file.new.input)
      → ShowsTexts Says From c.args.is_json c.args.words.now
      (g.I.Read.remaining c.args.input.now) (g.I.Read.remaining c.show_file.new.input)
  of_file {Says} says = record {
    path = Some c.in-Some.path.now;
    words = c.split-given.result.lines.now;
    roll = c.split-given.result.roll;
    split = shown_file.3;
    file = c.as_slice.result.now;
    is = shown_file.4;
    shows = subst (λ form. ShowsWords Says c.as_slice.result.now c.split-given.result.roll form
        c.split-given.result.lines.now (g.I.Read.remaining c.args.input.now)
        (g.I.Read.remaining c.show_file.new.input)) c.form_of.ensures says;
  }

pub returns-in_ok-file-in-Some-clause-shown : goal.returns-in_ok-file-in-Some-clause-shown
returns-in_ok-file-in-Some-clause-shown g c =
    on_ok_weaker c.show_file.result (of_file g
    (goal.at.returns-in_ok-file-in-Some-clause-shown g c).After-show_file) c.show_file.ensures.shown

pub returns-in_ok-file-in-Some-clause-left : goal.returns-in_ok-file-in-Some-clause-left
returns-in_ok-file-in-Some-clause-left g c =
    let told = (goal.at.returns-in_ok-file-in-Some-clause-left g c).After-show_file in
    IfErr-weaker c.show_file.result _ _ (λ fault. ⊎_elim inl (λ says. inr (of_file g told says)))
    c.show_file.ensures.left

pub returns-in_ok-file-in-Some-clause-fault : goal.returns-in_ok-file-in-Some-clause-fault
returns-in_ok-file-in-Some-clause-fault g c =
    let told = (goal.at.returns-in_ok-file-in-Some-clause-fault g c).After-show_file in
    IfErr-weaker c.show_file.result _ _ (λ fault. ⊎_elim inl (λ in_file.
    inr (c.as_slice.result.now, shown_file g told, in_file))) c.show_file.ensures.fault

pub returns-in_ok-file-in-None-clause-fault : goal.returns-in_ok-file-in-None-clause-fault
returns-in_ok-file-in-None-clause-fault g c =
    IfErr-weaker c.show_file-in-None.result _ _ (λ fault. ⊎_elim inl (λ in_file. inr (
      c.as_slice-in-None.result.now,
      (
        None,
        c.split-given.result.lines.now,
        c.split-given.result.roll,
        subst (λ file. IsSplit c.args.words.now (option_map (λ path. path.now) file)
            c.split-given.result.lines.now c.split-given.result.roll) c.in-None.is
            c.split-given.ensures,
        subst (IsBuiltBoard 90) (sym c.as_slice-in-None.ensures.value)
            (c.in_ok-file-in-None.ensures {u = tt}),
      ),
      in_file,
    ))) c.show_file-in-None.ensures.fault
