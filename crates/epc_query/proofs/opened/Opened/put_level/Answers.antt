use Rattle.std.proofs.lemmas.Option.{IfSome_then}
use Rattle.race_model.specs.Prelude.{IsLevelLineIn, IsLevelLineOver}
use Rattle.fixed_fraction.specs.Board.{board_whole}
use Rattle.epc_query.specs.Kinds.{book_by, long_by}
use Rattle.epc_query.proofs.Longs.{bounds_as, level_as}
use Rattle.epc_query.proofs.opened.Opened.put_level.Goals as goal

pub put_level_line-requires : goal.put_level_line-requires
put_level_line-requires c = bounds_as c.args.self.now.0 c.args.self.now.1 _ c.requires

-- where there is a line, it is that of the level
pub returns-clause-line : goal.returns-clause-line
returns-clause-line c =
    IfSome_then c.put_level_line.result
    {P = λ _. IsLevelLineOver board_whole (long_by c.args.self.now) c.args.pips
    c.put_level_line.new.text.bytes}
    {Q = λ _. IsLevelLineIn (book_by c.args.self.now) c.args.pips
    c.put_level_line.new.text.bytes}
    c.put_level_line.ensures.line
    (λ _. level_as c.args.self.now.0 c.args.self.now.1 c.args.pips _)
