use Rattle.std.proofs.Common.{ℕ, ◌-◌, ◌≡◌, List, length, take, drop, subst, arith}
use Rattle.std.proofs.lemmas.List.{length-take, length-drop, take_all}
use Rattle.std.specs.Io.KnownBytes.{Appends}
use Rattle.db_layout.proofs.Known.{appends_more}
use Rattle.db_layout.proofs.writing.write_bytes.Goals as goal

pub loop-written-preserved : goal.loop-written-preserved
loop-written-preserved g c =
    let bytes = c.args.bytes.now in
    let rest = drop c.loop-written.written bytes in
    let all : take (length bytes - c.loop-written.written) rest ≡ rest =
    take_all (length bytes - c.loop-written.written) rest
    (omega (arith, length-drop c.loop-written.written bytes)) in
    record {
      within =
          omega (
            arith,
            c.in-Ok.ensures.bound,
            length-take (length bytes - c.loop-written.written) rest,
            length-drop c.loop-written.written bytes,
          );
      written =
          appends_more _ _ _ bytes c.loop-written.written c.in-Ok.count
          c.loop-written.invariant.written
          (subst
          (λ (bs : List ℕ).
          Appends (g.W.Write.contents c.loop-written.writer)
          (g.W.Write.contents c.write.new.self) (take c.in-Ok.count bs)) all
          c.in-Ok.ensures.bytes);
    }
