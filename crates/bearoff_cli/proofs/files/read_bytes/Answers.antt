use Rattle.std.proofs.Common.{◌≡◌, ◌<◌, length, arith, rules, ap, ◌∙◌, Some, subst}
use Rattle.std.specs.Io.KnownBytes.{Consumes}
use Rattle.std.proofs.lemmas.List.{length-append}
use Rattle.epc_query.proofs.Runs.{read_more}
use Rattle.bearoff_cli.proofs.OpenedFiles.{all_read, first_read, no_bytes}
use Rattle.bearoff_cli.proofs.files.read_bytes.Goals as goal

pub returns-then-is_empty : goal.returns-then-is_empty
returns-then-is_empty g c =
    let none : length c.in_ok-read.read.now ≡ 0 = search rules in
    let nothing = subst (λ bs. Consumes (g.F.Read.remaining c.loop-turn.file)
    (g.F.Read.remaining c.read_block.new.file) bs) (no_bytes _ none) c.in_ok-read.ensures.read in
    record {
      read = λ file told. all_read file _ _ _ 20000001 (c.loop-turn.invariant.read file told)
          nothing (c.in_ok-read.ensures.end none) (omega (arith, c.loop-turn.invariant.short));
    }

pub returns-then-len-ge-MOST_BYTES : goal.returns-then-len-ge-MOST_BYTES
returns-then-len-ge-MOST_BYTES g c =
    let mid = g.F.Read.remaining c.loop-turn.file in
    let new = g.F.Read.remaining c.read_block.new.file in
    let bytes = c.extend_from_slice.new.self.items in
    record {
      read = λ file told.
          let all : Consumes (Some file) new bytes = rw c.in_ok-extend_from_slice.ensures.items
          (read_more file mid new _ _ (c.loop-turn.invariant.read file told)
          c.in_ok-read.ensures.read) in
          c.truncate.ensures.items ∙ first_read file new bytes 20000001 all (omega arith);
    }

pub loop-turn-preserved : goal.loop-turn-preserved
loop-turn-preserved g c =
    let items = c.in_ok-extend_from_slice.ensures.items in
    let some : 0 < length c.in_ok-read.read.now = search rules in
    record {
      read = λ file told. rw items (read_more file _ _ _ _ (c.loop-turn.invariant.read file told)
          c.in_ok-read.ensures.read);
      long = omega (
        arith,
        some,
        ap length items,
        length-append c.loop-turn.bytes.items
            c.in_ok-read.read.now,
        c.loop-turn.invariant.long,
      );
      short = search rules;
    }
