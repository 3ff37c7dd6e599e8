use Rattle.std.proofs.Common.{ℕ, List, Option, Result, Ok, Err, IfOk}
use Rattle.race_model.specs.Prelude.{IsBuilt}
use Rattle.retrograde.specs.UsualVersion.{usual_version}
use Rattle.db_layout.specs.declared.stated.Kind.TheVariants.{Database}
use Rattle.bearoff_cli.specs.FileAnswers.{AreAnswered, AreAnsweredOver}
use Rattle.race_model.proofs.RightFiles.Right.{right_of_local}
use Rattle.bearoff_cli.proofs.OpenedFiles.{database_stated}
use Rattle.bearoff_cli.proofs.StoppedRuns.{built_stopped}
use Rattle.bearoff_cli.proofs.act.answer_default.Goals as goal

-- answers over the built database
over : {A E : Type 0} (bound : ℕ) (file given : List ℕ) (left old new : Option (List ℕ))
    (r : Result A E) → IsBuilt (usual_version bound) bound file
    → IfOk r (λ _. AreAnswered Database file given left old new)
    → IfOk r (λ _. AreAnsweredOver bound given left old new)
over bound file given left old new (Ok x) built is =
    record { file = file; built = built; answered = is }
over bound file given left old new (Err e) built is = tt

pub returns-clause-answers : goal.returns-clause-answers
returns-clause-answers g c given read =
    let file = c.in_ok-file.file.items in
    let built = c.in_ok-file.ensures {u = tt} in
    let stated = database_stated file (right_of_local file built.local) in
    over 8 file given _ _ _ c.answer_asked.result built
    (rw (c.as_slice.ensures.value, stated) at (c.answer_asked.ensures.answers given read))

pub returns-clause-left : goal.returns-clause-left
returns-clause-left g c given read =
    let file = c.in_ok-file.file.items in
    let built = c.in_ok-file.ensures {u = tt} in
    let stated = database_stated file (right_of_local file built.local) in
    built_stopped file given (g.I.Read.remaining c.answer_asked.new.input)
    (g.O.Write.contents c.args.output.now) (g.O.Write.contents c.answer_asked.new.output)
    c.answer_asked.result built
    (rw (c.as_slice.ensures.value, stated) at (c.answer_asked.ensures.left given read))

pub returns-clause-cause : goal.returns-clause-cause
returns-clause-cause g c =
    let file = c.in_ok-file.file.items in
    let right = right_of_local file (c.in_ok-file.ensures {u = tt}).local in
    c.answer_asked.ensures.right
    (rw (c.as_slice.ensures.value, database_stated file right) right)
