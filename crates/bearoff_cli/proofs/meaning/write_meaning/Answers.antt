-- What was written of the path, and then of what stands behind it, is a part of the line.
use Rattle.std.proofs.Common.{◌++◌, Result, Ok, Err, OnOk, OnErr, ℕ, List, Option, codes, subst, ◌∙◌}
use Rattle.std.specs.Io.KnownBytes.{Appends}
use Rattle.db_layout.specs.Writes.{AppendsPart}
use Rattle.query_text.proofs.Held.{part_after, part_all, part_longer}
use Rattle.bearoff_cli.specs.Meanings.{after_colon, meaning_of}
use Rattle.bearoff_cli.proofs.meaning.write_meaning.Goals as goal

-- a part was written, whether all of it was or not
either : {A E : Type 0} (old new : Option (List ℕ)) (bytes : List ℕ) (r : Result A E)
    → OnOk r (Appends old new bytes) → OnErr r (AppendsPart old new bytes)
    → AppendsPart old new bytes
either old new bytes (Ok x) all part = part_all old new bytes all
either old new bytes (Err e) all part = part

-- what stands behind the path
abbrev behind : List ℕ → List ℕ → List ℕ
behind meaning reason = codes ": " ++ (meaning ++ (after_colon reason ++ codes "\n"))

pub returns-in_err-write_bytes-clause-part : goal.returns-in_err-write_bytes-clause-part
returns-in_err-write_bytes-clause-part g c =
    let old = g.E.Write.contents c.args.errors.now in
    let new = g.E.Write.contents c.write_bytes.new.writer in
    part_longer old new c.args.path.now
    (behind (meaning_of c.args.fault.now) c.args.reason.now.bytes)
    (subst (λ bytes. AppendsPart old new bytes) c.as_bytes.ensures.value
    c.in_err-write_bytes.ensures.part)

pub returns-clause-part : goal.returns-clause-part
returns-clause-part g c =
    let old = g.E.Write.contents c.args.errors.now in
    let mid = g.E.Write.contents c.write_bytes.new.writer in
    let new = g.E.Write.contents c.write_bytes-2.new.writer in
    let rest = behind (meaning_of c.args.fault.now) c.args.reason.now.bytes in
    let part = either mid new c.as_bytes-2.result.now c.write_bytes-2.result
    c.write_bytes-2.ensures.all c.write_bytes-2.ensures.part in
    part_after old mid new c.args.path.now rest
    (subst (λ bytes. Appends old mid bytes) c.as_bytes.ensures.value
    c.in_ok-write_bytes.ensures.all)
    (subst (λ bytes. AppendsPart mid new bytes)
    (c.as_bytes-2.ensures.value ∙ c.as_str.ensures.value ∙ c.said.ensures) part)
