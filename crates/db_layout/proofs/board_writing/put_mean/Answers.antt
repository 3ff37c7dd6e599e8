use Rattle.std.proofs.Common.{ap, ◌∙◌, arith}
use Rattle.std.specs.Int.{w128, from_be_bytes}
use Rattle.race_model.specs.Prelude.{mean_parts}
use Rattle.race_model.proofs.RightFiles.CountParts.{same_parts}
use Rattle.db_layout.proofs.ByteParts.{bytes_at-agree}
use Rattle.db_layout.proofs.SameFronts.{rest_stays}
use Rattle.db_layout.proofs.board_writing.put_mean.Goals as goal

pub returns-clause-mean : goal.returns-clause-mean
unfolding mean_parts
returns-clause-mean c =
    same_parts
    (ap (from_be_bytes w128)
    (bytes_at-agree c.put_long.new.bytes c.put_wide.new.bytes 16 0 16
    c.put_long.ensures.before.bytes (omega arith))
    ∙ c.put_wide.ensures.number
    ∙ c.upper.ensures.value)
    (c.put_long.ensures.number ∙ c.lower.ensures)

pub returns-clause-after : goal.returns-clause-after
returns-clause-after c =
    rest_stays 16 24 c.args.bytes.now c.put_wide.new.bytes c.put_long.new.bytes (omega arith)
    c.put_wide.ensures.after c.put_long.ensures.after
