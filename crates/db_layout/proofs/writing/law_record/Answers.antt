-- The mean, each play and each share has room in its bytes, and is read where it was written.
use Rattle.race_model.proofs.Strategies.Horizons.{most_rolls-most}
use Rattle.db_layout.proofs.Bytes.{record_reads, shares_fit, mean_fits}
use Rattle.db_layout.proofs.writing.law_record.Goals as goal

pub returns : goal.returns
returns c =
    λ version p low held.
    record_reads version p c.args.mean c.args.plays.now c.args.spread.now
    (most_rolls-most p low) held
    (mean_fits c.args.mean
    (rw (← c.numerator-mean.ensures.value) c.numerator-mean.ensures.range)) c.told-plays
    c.fits-plays c.at-none.ensures.len (shares_fit c.args.spread.now c.at-none.ensures.total)
