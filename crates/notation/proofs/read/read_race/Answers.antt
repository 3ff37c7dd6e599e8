use Rattle.std.proofs.Common.{refl, subst}
use Rattle.std.proofs.lemmas.Str.Ascii.{trim_ascii_is}
use Rattle.notation.specs.Readings.{IsOfCounts, IsReadingAs}
use Rattle.notation.proofs.read.read_race.Goals as goal

pub returns-then-has_comma : goal.returns-then-has_comma
returns-then-has_comma c =
    let trimmed =
    trim_ascii_is c.args.text.now c.trim_ascii.result.now _ refl c.trim_ascii.ensures.value in
    subst (λ b. IsReadingAs b c.args.text.now c.read_counts.result)
    (c.if-has_comma.ensures {u = tt})
    (subst (λ t. IsOfCounts t c.read_counts.result) trimmed c.read_counts.ensures)
