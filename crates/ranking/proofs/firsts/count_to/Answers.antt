use Rattle.std.proofs.Common.{◌+◌, ap, ◌∙◌, arith}
use Rattle.race_model.specs.Prelude.{first_of}
use Rattle.ranking.proofs.TableCounts.{first_of-capped_suc}
use Rattle.ranking.proofs.LevelCounts.{at_first}
use Rattle.ranking.proofs.firsts.count_to.Goals as goal

pub returns : goal.returns
returns c =
    at_first (c.from.result + 1) (omega arith)
    ∙ ap (λ m. first_of (m + 1)) (c.from.ensures ∙ c.min.ensures)
    ∙ first_of-capped_suc c.args.pips
