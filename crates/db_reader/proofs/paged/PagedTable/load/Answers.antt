use Rattle.std.proofs.Common.{Contains, sym, ap, subst, ◌∙◌}
use Rattle.std.specs.Option.{option_copied}
use Rattle.db_reader.proofs.Pages.{looked_up, found, after_put}
use Rattle.db_reader.proofs.paged.PagedTable.load.Goals as goal

pub invariant_of-self : goal.invariant_of-self
invariant_of-self g c = record {
  fits = c.args.self.now.fits;
  kept = λ file rank bytes told has.
      looked_up file c.args.self.now.records.entries c.args.rank
      (λ r b. c.args.self.now.kept file r b told) rank bytes
      (subst (λ cache. Contains cache.entries (rank, bytes)) c.get.follows.holds-at-none has);
}

pub returns-in-Some-clause-ready : goal.returns-in-Some-clause-ready
returns-in-Some-clause-ready g c = λ file told.
    c.copy_from.ensures
    ∙ found file c.args.self.now.records.entries c.args.rank c.in-Some.kept.now
    (λ r b. c.args.self.now.kept file r b told)
    (sym c.get.ensures.value ∙ ap option_copied c.in-Some.is)

pub read_record-requires-clause-file : goal.read_record-requires-clause-file
read_record-requires-clause-file g c =
    λ file told. c.args.self.now.fits file c.in-Some-header.header told c.in-Some-header.is

pub invariant_of-self-in_default-read_record : goal.invariant_of-self-in_default-read_record
invariant_of-self-in_default-read_record g c = record {
  fits =
      λ file accepted told.
      c.args.self.now.fits file accepted (sym c.read_record.ensures.stays.told ∙ told);
  kept = λ file rank bytes told has.
      looked_up file c.args.self.now.records.entries c.args.rank
      (λ r b. c.args.self.now.kept file r b (sym c.read_record.ensures.stays.told ∙ told))
      rank bytes
      (subst (λ cache. Contains cache.entries (rank, bytes)) c.get.follows.holds-at-none has);
}

pub invariant_of-self-2 : goal.invariant_of-self-2
invariant_of-self-2 g c = record {
  fits =
      λ file accepted told.
      c.args.self.now.fits file accepted (sym c.read_record.ensures.stays.told ∙ told);
  kept = λ file rank bytes told.
      let before = sym c.read_record.ensures.stays.told ∙ told in
      after_put file c.get.follows.lender-at-none c.put.new.self c.args.rank c.in-Ok.read
      c.put.result
      c.put.ensures.entries c.put.ensures.err
      (λ r b has. looked_up file c.args.self.now.records.entries c.args.rank
      (λ q d. c.args.self.now.kept file q d before) r b
      (subst (λ cache. Contains cache.entries (r, b)) c.get.follows.holds-at-none has))
      (c.in-Ok.ensures.told file before) rank bytes;
}
