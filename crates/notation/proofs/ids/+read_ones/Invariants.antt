use Rattle.notation.proofs.ids.+read_ones.Given as goal

-- the bits that are left
abbrev pub decreases-read_ones : goal.decreases-read_ones
decreases-read_ones l = l.width
