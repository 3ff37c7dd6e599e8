use Rattle.std.proofs.Common.{◌≡◌, map, take, length}
use Rattle.std.specs.List.{filter, slice_split}
use Rattle.notation.specs.Parts.{is_gap, is_part}
use Rattle.notation.proofs.parts.parts.Given as goal

-- the parts so far, without those that say nothing
abbrev pub invariant-loop-part : goal.invariant-loop-part
invariant-loop-part l = map (λ part. part.now) l.parts.items
    ≡ take 11 (filter (is_part l.fn.has_labels)
    (take (length l.yielded) (slice_split (is_gap l.fn.has_labels) l.fn.text)))
