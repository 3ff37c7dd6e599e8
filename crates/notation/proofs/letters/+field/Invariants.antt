use Rattle.notation.proofs.letters.+field.Given as goal

-- the bits that are left
abbrev pub decreases-field : goal.decreases-field
decreases-field l = l.count
