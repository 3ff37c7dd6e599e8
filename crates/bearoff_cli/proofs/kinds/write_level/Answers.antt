-- What was written is the line of the pip count, or a part of it.
use Rattle.std.proofs.Common.{rules, OnErr, OnOk, OnSome}
use Rattle.race_model.specs.Prelude.{IsLevelLineIn}
use Rattle.epc_query.specs.Kinds.{book_as}
use Rattle.bearoff_cli.specs.FileAnswers.{WritesLevel}
use Rattle.bearoff_cli.specs.Requests.{WritesLevelPart}
use Rattle.bearoff_cli.proofs.kinds.write_level.Given.{Over}
use Rattle.bearoff_cli.proofs.kinds.write_level.Goals.{After-unwrap}
use Rattle.bearoff_cli.proofs.kinds.write_level.Goals as goal

-- the text is the line
told : (g : Over) (c : After-unwrap g) → IsLevelLineIn (book_as c.args.kind c.args.bytes.now)
    c.args.pips c.put_level.new.text.bytes
told g c =
    let some : OnSome c.put_level.result (IsLevelLineIn (book_as c.args.kind c.args.bytes.now)
    c.args.pips c.put_level.new.text.bytes) =
    rw c.kept-opened.ensures at c.put_level.ensures.line in
    search rules

pub returns-clause-part : goal.returns-clause-part
returns-clause-part g c =
    let is = told g (goal.at.returns-clause-part g c).After-unwrap in
    let old = g.O.Write.contents c.args.output.now in
    let new = g.O.Write.contents c.write_line.new.writer in
    let part : OnErr c.map_err.result
    (WritesLevelPart c.args.kind c.args.bytes.now c.args.pips old new) =
    search rules in
    part

pub returns-clause-level : goal.returns-clause-level
returns-clause-level g c =
    let is = told g (goal.at.returns-clause-level g c).After-unwrap in
    let old = g.O.Write.contents c.args.output.now in
    let new = g.O.Write.contents c.write_line.new.writer in
    let level : OnOk c.map_err.result
    (WritesLevel c.args.kind c.args.bytes.now c.args.pips old new) =
    search rules in
    level
