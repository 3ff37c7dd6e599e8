use Rattle.std.proofs.Common.{◌≡◌, ℕ, ◌+◌, drop, ap, sym, subst, ◌∙◌, arith}
use Rattle.std.specs.Int.{w64, w128, from_be_bytes}
use Rattle.race_model.specs.Prelude.{bytes_at, count_place}
use Rattle.race_model.proofs.RightFiles.CountParts.{same_parts, count-short, count-middle, count-long}
use Rattle.db_layout.specs.BoardRecords.{KeepsBefore}
use Rattle.db_layout.proofs.ByteParts.{bytes_at-agree}
use Rattle.db_layout.proofs.SameFronts.{keeps_twice, rest_stays}
use Rattle.db_layout.proofs.board_writing.put_count.Goals as goal

pub returns-then-k-le11-clause-count : goal.returns-then-k-le11-clause-count
returns-then-k-le11-clause-count c =
    let new = c.put_long.new.bytes in
    count-short new c.args.k c.if-k-le11.true
    ∙ same_parts (sym (c.requires.short c.if-k-le11.true))
    (subst (λ (p : ℕ). from_be_bytes w64 (bytes_at new p 8) ≡ c.args.count.lower)
    c.count_place-place.ensures c.put_long.ensures.number)

pub returns-then-k-le22-clause-before : goal.returns-then-k-le22-clause-before
returns-then-k-le22-clause-before c =
    let place = c.count_place-place.result in
    let old = c.args.bytes.now in
    let new = c.put_long-then-k-le22-2.new.bytes in
    subst (λ (p : ℕ). KeepsBefore p old new) c.count_place-place.ensures
    (keeps_twice place (place + 8) old c.put_long-then-k-le22.new.bytes new (omega arith)
    c.put_long-then-k-le22.ensures.before c.put_long-then-k-le22-2.ensures.before)

pub returns-then-k-le22-clause-count : goal.returns-then-k-le22-clause-count
returns-then-k-le22-clause-count c =
    let place = c.count_place-place.result in
    let new = c.put_long-then-k-le22-2.new.bytes in
    count-middle new c.args.k c.if-k-le11.false c.if-k-le22.true
    ∙ same_parts
    (subst (λ (p : ℕ). from_be_bytes w64 (bytes_at new p 8) ≡ c.args.count.upper)
    c.count_place-place.ensures
    (ap (from_be_bytes w64)
    (bytes_at-agree new c.put_long-then-k-le22.new.bytes (place + 8) place 8
    c.put_long-then-k-le22-2.ensures.before.bytes (omega arith))
    ∙ c.put_long-then-k-le22.ensures.number))
    (subst (λ (p : ℕ). from_be_bytes w64 (bytes_at new (p + 8) 8) ≡ c.args.count.lower)
    c.count_place-place.ensures c.put_long-then-k-le22-2.ensures.number)

pub returns-else-k-le22-clause-before : goal.returns-else-k-le22-clause-before
returns-else-k-le22-clause-before c =
    let place = c.count_place-place.result in
    let old = c.args.bytes.now in
    let new = c.put_long-else-k-le22.new.bytes in
    subst (λ (p : ℕ). KeepsBefore p old new) c.count_place-place.ensures
    (keeps_twice place (place + 16) old c.put_wide.new.bytes new (omega arith)
    c.put_wide.ensures.before c.put_long-else-k-le22.ensures.before)

pub returns-else-k-le22-clause-count : goal.returns-else-k-le22-clause-count
returns-else-k-le22-clause-count c =
    let place = c.count_place-place.result in
    let new = c.put_long-else-k-le22.new.bytes in
    count-long new c.args.k c.if-k-le22.false
    ∙ same_parts
    (subst (λ (p : ℕ). from_be_bytes w128 (bytes_at new p 16) ≡ c.args.count.upper)
    c.count_place-place.ensures
    (ap (from_be_bytes w128)
    (bytes_at-agree new c.put_wide.new.bytes (place + 16) place 16
    c.put_long-else-k-le22.ensures.before.bytes (omega arith))
    ∙ c.put_wide.ensures.number))
    (subst (λ (p : ℕ). from_be_bytes w64 (bytes_at new (p + 16) 8) ≡ c.args.count.lower)
    c.count_place-place.ensures c.put_long-else-k-le22.ensures.number)

pub returns-then-k-le11-clause-after : goal.returns-then-k-le11-clause-after
returns-then-k-le11-clause-after c =
    let new = c.put_long.new.bytes in
    let end : c.count_place-place.result + 8 ≡ count_place (c.args.k + 1) =
    omega (arith, c.count_place-place.ensures, c.if-k-le11.true) in
    subst (λ (n : ℕ). drop n new ≡ drop n c.args.bytes.now) end c.put_long.ensures.after

pub returns-then-k-le22-clause-after : goal.returns-then-k-le22-clause-after
returns-then-k-le22-clause-after c =
    let place = c.count_place-place.result in
    let old = c.args.bytes.now in
    let new = c.put_long-then-k-le22-2.new.bytes in
    let end : place + 8 + 8 ≡ count_place (c.args.k + 1) =
    omega (arith, c.count_place-place.ensures, c.if-k-le11.false, c.if-k-le22.true) in
    subst (λ (n : ℕ). drop n new ≡ drop n old) end
    (rest_stays (place + 8) (place + 8 + 8) old c.put_long-then-k-le22.new.bytes new (omega arith)
    c.put_long-then-k-le22.ensures.after c.put_long-then-k-le22-2.ensures.after)

pub returns-else-k-le22-clause-after : goal.returns-else-k-le22-clause-after
returns-else-k-le22-clause-after c =
    let place = c.count_place-place.result in
    let old = c.args.bytes.now in
    let new = c.put_long-else-k-le22.new.bytes in
    let end : place + 16 + 8 ≡ count_place (c.args.k + 1) =
    omega (arith, c.count_place-place.ensures, c.if-k-le22.false) in
    subst (λ (n : ℕ). drop n new ≡ drop n old) end
    (rest_stays (place + 16) (place + 16 + 8) old c.put_wide.new.bytes new (omega arith)
    c.put_wide.ensures.after c.put_long-else-k-le22.ensures.after)
