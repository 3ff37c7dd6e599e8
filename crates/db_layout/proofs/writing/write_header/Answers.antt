use Rattle.std.proofs.Common.{List, ℕ, OnErr, subst}
use Rattle.db_layout.specs.Writes.{AppendsPart}
use Rattle.db_layout.proofs.writing.write_header.Goals as goal

pub returns-clause-part : goal.returns-clause-part
returns-clause-part g c =
    subst
    (λ (bytes : List ℕ). OnErr c.write_bytes.result
    (AppendsPart (g.W.Write.contents c.args.writer.now)
    (g.W.Write.contents c.write_bytes.new.writer)
    bytes))
    c.header_bytes.ensures c.write_bytes.ensures.part
