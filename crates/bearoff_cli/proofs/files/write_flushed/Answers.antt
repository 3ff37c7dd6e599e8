-- What was written stays where the output fails to hand it on.
use Rattle.std.proofs.Common.{Result, Ok, Err, List, [], ◌++◌, ℕ, Option, OnErr}
use Rattle.std.specs.Io.KnownBytes.{Appends, Keeps}
use Rattle.std.proofs.lemmas.List.{append-nil}
use Rattle.db_layout.specs.Writes.{AppendsPart}
use Rattle.db_layout.proofs.Known.{appends_kept, appends_twice}
use Rattle.query_text.proofs.Held.{appends_same, part_all}
use Rattle.bearoff_cli.proofs.files.write_flushed.Goals as goal

kept : {A E : Type 0} (old mid new : Option (List ℕ)) (bytes : List ℕ) (r : Result A E)
    → Appends old mid bytes → Keeps mid new → OnErr r (AppendsPart old new bytes)
kept old mid new bytes (Ok x) written keeps = tt
kept old mid new bytes (Err e) written keeps =
    part_all old new bytes (appends_same old new (bytes ++ []) bytes (append-nil bytes)
    (appends_twice old mid new bytes [] written (appends_kept mid new keeps)))

pub returns-in-Ok-clause-part : goal.returns-in-Ok-clause-part
returns-in-Ok-clause-part g c =
    kept _ _ _ c.args.bytes.now c.flush.result c.in-Ok.ensures.all c.flush.ensures.kept
