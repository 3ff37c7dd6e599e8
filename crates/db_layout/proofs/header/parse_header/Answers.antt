-- What a header states that is read is what a database of its version and its bound states.
use Rattle.std.proofs.Common.{ap, sym, subst, ◌∙◌}
use Rattle.race_model.specs.Prelude.{version_by, version_of, version, bound}
use Rattle.db_layout.specs.Records.{IsVersion}
use Rattle.db_layout.proofs.header.parse_header.Goals as goal

pub of_version-requires-clause-version : goal.of_version-requires-clause-version
of_version-requires-clause-version c =
    let said = c.in-Ok.ensures {u = tt} in
    subst IsVersion (sym said.stated.0) (said.header version)

pub of_version-requires-clause-bound : goal.of_version-requires-clause-bound
of_version-requires-clause-bound c =
    let said = c.in-Ok.ensures {u = tt} in
    rw (said.stated.0, said.stated.1) (said.header bound)

pub returns-in-Ok-clause-header : goal.returns-in-Ok-clause-header
unfolding version_of
returns-in-Ok-clause-header c =
    let said = c.in-Ok.ensures {u = tt} in (
      said.header,
      c.of_version.ensures.bound ∙ said.stated.1,
      ap version_by (c.of_version.ensures.version ∙ said.stated.0),
    )
