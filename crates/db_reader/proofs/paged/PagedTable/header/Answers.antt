use Rattle.std.proofs.Common.{◌≡◌, sym, subst, ◌∙◌}
use Rattle.db_reader.specs.Reads.{HasHeader}
use Rattle.db_reader.proofs.paged.PagedTable.header.Goals as goal

pub invariant_of-self : goal.invariant_of-self
invariant_of-self g c = record {
  fits = λ file accepted told none. cc;
  kept =
      λ file rank bytes told.
      c.args.self.now.kept file rank bytes (sym c.read_header.ensures.stays.told ∙ told);
}

pub invariant_of-self-2 : goal.invariant_of-self-2
invariant_of-self-2 g c = record {
  fits = λ file accepted told is.
      let same : c.in_ok-header.header ≡ accepted = cc in
      subst (HasHeader file) same
      (c.in_ok-header.ensures.told file (sym c.read_header.ensures.stays.told ∙ told));
  kept =
      λ file rank bytes told.
      c.args.self.now.kept file rank bytes (sym c.read_header.ensures.stays.told ∙ told);
}
