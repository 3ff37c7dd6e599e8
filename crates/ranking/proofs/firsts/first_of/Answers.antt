use Rattle.std.proofs.Common.{ap, ◌∙◌, arith}
use Rattle.race_model.specs.Prelude.{first_of}
use Rattle.ranking.proofs.TableCounts.{first_of-capped}
use Rattle.ranking.proofs.LevelCounts.{at_first}
use Rattle.ranking.proofs.firsts.first_of.Goals as goal

pub returns : goal.returns
returns c =
    at_first c.from.result (omega arith)
    ∙ ap first_of (c.from.ensures ∙ c.min.ensures)
    ∙ first_of-capped c.args.pips
