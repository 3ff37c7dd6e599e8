-- What was written to an empty vector, or made in one that was then cut, is the built file.
use Rattle.std.proofs.Common.{◌≡◌, ◌++◌, length, take, drop, ap, subst, sym, ◌∙◌, take_at}
use Rattle.race_model.specs.Prelude.{IsBuilt}
use Rattle.retrograde.specs.BuiltBoards.{IsBuiltBoard}
use Rattle.retrograde.specs.UsualVersion.{usual_version}
use Rattle.bearoff_cli.proofs.files.built_file.Goals as goal

pub returns-in-Ok : goal.returns-in-Ok
returns-in-Ok c =
    let built = (c.in-Ok.ensures {u = tt}).built in
    let bytes : c.build.new.writer.items ≡ built.0 = built.2
    ∙ ap (λ bytes. bytes ++ built.0) (c.in_ok-file-in-Database.ensures {u = tt}).items in
    rw c.in-Database.is
    (subst (IsBuilt (usual_version c.args.pips) c.args.pips) (sym bytes) built.1)

pub returns-in-Ok-build_board : goal.returns-in-Ok-build_board
returns-in-Ok-build_board c =
    let file = c.in_ok-file-in-Board.file in
    let room = c.build_board.new.room in
    let is = c.in-Ok-build_board.ensures {u = tt} in
    let bytes = c.truncate.ensures.items ∙ ap (take c.in-Ok-build_board.count)
    (take_at room (drop (length room) file.items) file.len
    (is.len ∙ ap length c.as_mut_slice.ensures.value ∙ sym file.ok.0)) in
    rw c.in-Board.is (subst (IsBuiltBoard c.args.pips) (sym bytes) is.built)
