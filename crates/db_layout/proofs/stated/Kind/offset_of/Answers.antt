use Rattle.std.proofs.Common.{◌≡◌, ◌≢◌, ℕ, ◌+◌, ◌*◌, refl, sym, ap, ◌∙◌, w64, arith}
use Rattle.std.proofs.Math.Facts.{Fits-of_lt}
use Rattle.race_model.specs.Prelude.{first_of, Version, full, compact, version_by, stated_length, record_length}
use Rattle.race_model.specs.Prelude.{record_place, place_by}
use Rattle.race_model.proofs.RightFiles.Places.{record_place-full}
use Rattle.db_layout.specs.Layouts.{layout_in, length_in}
use Rattle.db_layout.specs.declared.stated.Kind.{Kind}
use Rattle.db_layout.specs.declared.stated.Kind.TheVariants.{Database, Board}
use Rattle.db_layout.proofs.RecordPlaces.{place-in, place-most, place_of_rank}
use Rattle.db_layout.proofs.stated.Kind.offset_of.Goals as goal

-- records whose bytes are stated stand that far apart
level : (kind : Kind) (version r : ℕ) → (layout_in kind version).stated ≢ 0 →
    (layout_in kind version).place r ≡ 32 + (layout_in kind version).stated * r
level Database version r some = by_version (version_by version) some where
  by_version : (v : Version) → stated_length v ≢ 0 → record_place v r ≡ 32 + stated_length v * r
  by_version full some = record_place-full r
  by_version compact none = absurd (none refl)
level Board version r none = absurd (none refl)

-- records whose bytes are not stated are as long as those of version 2
as_compact : (kind : Kind) (version : ℕ) → (layout_in kind version).stated ≡ 0 →
    length_in kind 2 ≡ length_in kind version
as_compact Database version none = by_version (version_by version) none where
  by_version : (v : Version) → stated_length v ≡ 0 → record_length compact ≡ record_length v
  by_version full none = absurd (omega (arith, none))
  by_version compact none = refl
as_compact Board version none = refl

-- where the records from the rank on stand
offset : (c : goal.After-from-2) →
    c.start_of.result + c.from-earlier.result * c.from-2.result
    ≡ (layout_in c.args.self c.args.version).place c.args.rank
offset c =
    let none = sym c.stated_bytes-each.ensures ∙ c.if-each-ne0.false in
    place_of_rank (length_in c.args.self c.args.version) c.args.pips c.args.rank
    c.start_of.result c.from-earlier.result c.from-2.result c.requires.from c.requires.beyond
    (c.start_of.ensures ∙ place-in c.args.self 2 (first_of c.args.pips)
    ∙ ap (λ size. place_by size (first_of c.args.pips))
    (as_compact c.args.self c.args.version none))
    (omega (arith, c.from-earlier.ensures, c.first_of.ensures))
    (c.from-2.ensures ∙ c.length_of.ensures)
    ∙ sym (place-in c.args.self c.args.version c.args.rank)

pub returns-then-each-ne0 : goal.returns-then-each-ne0
returns-then-each-ne0 c =
    rw (c.from.ensures, c.from-then-each-ne0.ensures, c.stated_bytes-each.ensures)
    (sym (level c.args.self c.args.version c.args.rank
    (rw c.stated_bytes-each.ensures at c.if-each-ne0.true)))

pub overflow_add-result-2 : goal.overflow_add-result-2
overflow_add-result-2 c =
    Fits-of_lt {w = w64}
    (omega (
      arith,
      offset c,
      place-most c.args.self c.args.version c.args.rank,
      c.ranges.rank.fits,
    ))

pub returns : goal.returns
returns c = offset c
