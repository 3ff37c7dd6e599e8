-- The shares that are lent are those between two places.
use Rattle.std.proofs.Common.{◌≡◌, ◌+◌, ◌-◌, ◌%◌, ap, sum, ◌∙◌, arith, slice_index}
use Rattle.race_model.specs.Prelude.{bytes_at}
use Rattle.race_model.proofs.RightFiles.Places.{length-bytes_at}
use Rattle.retrograde.specs.KeptShares.{shares_in, shares_kept}
use Rattle.retrograde.proofs.kept_shares.KeptRecords.spread.Goals.{After-from-index}
use Rattle.retrograde.proofs.kept_shares.KeptRecords.spread.Goals as goal

-- what is between them
same : (c : After-from-index) →
    shares_in
    (bytes_at c.args.self.now.room.now
    (slice_index c.args.self.now.places.now c.from-index.result)
    (slice_index c.args.self.now.places.now (c.from-index.result + 1)
    - slice_index c.args.self.now.places.now c.from-index.result))
    ≡ shares_kept c.args.self.now.room.now c.args.self.now.places.now c.args.rank
unfolding shares_kept
same c =
    ap
    (λ r. shares_in
    (bytes_at c.args.self.now.room.now (slice_index c.args.self.now.places.now r)
    (slice_index c.args.self.now.places.now (r + 1)
    - slice_index c.args.self.now.places.now r)))
    c.from-index.ensures

pub invariant_of-result : goal.invariant_of-result
invariant_of-result c =
    let records = c.args.self.now in
    let lt = c.requires.made in
    let start = slice_index records.places.now c.from-index.result in
    let end = slice_index records.places.now (c.from-index.result + 1) in
    let e = c.from-index.ensures in
    let starts : start ≡ slice_index records.places.now c.args.rank =
    ap (slice_index records.places.now) e in
    let ends : end ≡ slice_index records.places.now (c.args.rank + 1) =
    ap (λ r. slice_index records.places.now (r + 1)) e in
    let long = length-bytes_at records.room.now start (end - start)
    (omega (
      arith,
      starts,
      ends,
      records.placed.next c.args.rank lt,
      records.placed.rise (c.args.rank + 1) (omega (arith, lt)),
      records.placed.inside,
    )) in
    record {
      few = omega (arith, long, starts, ends, records.placed.few c.args.rank lt);
      parts =
          ap (λ n. n % 16) long
          ∙ ap (λ n. n % 16) (omega (arith, starts, ends))
          ∙ records.placed.parts c.args.rank lt;
      all =
          ap sum (same (goal.at.invariant_of-result c).After-from-index)
          ∙ records.wholes c.args.rank lt;
    }

pub returns : goal.returns
returns c = same (goal.at.returns c).After-from-index
