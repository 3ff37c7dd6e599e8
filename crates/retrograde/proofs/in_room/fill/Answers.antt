use Rattle.std.proofs.Common.{◌≡◌, ℕ, ◌+◌, ◌-◌, ◌≤◌, List, ◌++◌, length, take, drop, replicate, sym, ap, ◌∙◌, arith}
use Rattle.std.proofs.Common.{refl, rules, slice_index}
use Rattle.std.proofs.lemmas.List.{length-take, length-drop, length-append, length-replicate}
use Rattle.std.proofs.lemmas.List.{get_or-replicate}
use Rattle.std.proofs.lemmas.Slice.{take-put_mid, drop-put_mid}
use Rattle.race_model.specs.Prelude.{first_of, count_to, version_by, record_place}
use Rattle.race_model.proofs.Ranks.RankOrder.{first_of-zero, count_to-rises}
use Rattle.race_model.proofs.RightFiles.Places.{header_before}
use Rattle.db_layout.proofs.Bounds.{bound-most}
use Rattle.db_layout.proofs.Prefixes.{file-more}
use Rattle.db_layout.proofs.RecordPlaces.{first_of-next}
use Rattle.db_layout.proofs.SameFronts.{rest-agree}
use Rattle.db_layout.proofs.WholeFiles.{header-length}
use Rattle.retrograde.specs.AllRecords.{mean_of_rank, bytes_of_rank}
use Rattle.retrograde.specs.BuiltBytes.{built_to}
use Rattle.retrograde.proofs.Existence.{all-records}
use Rattle.retrograde.proofs.Kept.{kept-none, level-fits, places-rise}
use Rattle.retrograde.proofs.Levels.{level-all}
use Rattle.retrograde.proofs.Placed.{begins-first, begins-built}
use Rattle.retrograde.proofs.in_room.fill.Given.{Over}
use Rattle.retrograde.proofs.in_room.fill.Goals.{After-level_place-start}
use Rattle.retrograde.proofs.in_room.fill.Goals as goal

pub put_bytes-requires : goal.put_bytes-requires
put_bytes-requires g c =
    let header = c.args.header.now in
    let version = version_by header.version in
    omega (
      arith,
      c.requires.room,
      header_before version header.count,
      ap length c.header_bytes.ensures,
      header-length version header.bound,
    )

pub loop-pips-init : goal.loop-pips-init
loop-pips-init g c =
    let header = c.args.header.now in
    let version = version_by header.version in
    let long = ap length c.header_bytes.ensures ∙ header-length version header.bound in
    let start : slice_index (replicate g.row.PLACES 0) 0 ≡ 0 =
    get_or-replicate {A = ℕ} g.row.PLACES 0 0 0 (omega (arith, c.requires.places)) in
    record {
      len = c.put_bytes.ensures.len;
      work_len = refl;
      means_len = length-replicate g.row.PLACES 0;
      places_len = length-replicate g.row.PLACES 0;
      kept = rw first_of-zero
          (kept-none (replicate g.row.PLACES 0) (replicate g.row.PLACES 0) c.args.work.now start);
      before = omega (arith, start, ap (slice_index (replicate g.row.PLACES 0)) first_of-zero);
      known = λ full. rw first_of-zero (c.new-least.ensures (mean_of_rank full));
      written = rw first_of-zero
          (begins-first version all-records header.bound c.put_bytes.new.room
          (ap (λ n. take n c.put_bytes.new.room) (sym long)
          ∙ c.put_bytes.ensures.there
          ∙ c.header_bytes.ensures));
      rest =
          rest-agree c.put_bytes.new.room c.args.room.now c.put_bytes.result
          (record_place version header.count)
          (omega (arith, long, c.put_bytes.ensures.end, header_before version header.count))
          c.put_bytes.ensures.rest;
    }

-- where a level stands in the room
module _ (g : Over) (c : After-level_place-start g) where
  -- its pip count is no more than the bound
  low : c.loop-pips.pips ≤ c.args.header.now.bound
  low = omega (arith, c.loop-pips-test.true)

  -- it ends no later than the file
  rises : count_to c.loop-pips.pips ≤ c.args.header.now.count
  rises =
      omega (
        arith,
        c.args.header.now.counted,
        count_to-rises c.loop-pips.pips c.args.header.now.bound low,
      )

  -- the level ends not before it begins
  ends : c.level_place-start.result.0 ≤ c.level_place-start.result.1
  ends =
      omega (
        arith,
        c.level_place-start.ensures.start,
        c.level_place-start.ensures.end,
        c.level_place-start.ensures.rise,
      )

  -- the level ends inside the room
  inside : c.level_place-start.result.1 ≤ length c.loop-pips.room
  inside =
      let header = c.args.header.now in
      omega (
        arith,
        c.level_place-start.ensures.end,
        places-rise (version_by header.version) (count_to c.loop-pips.pips) header.count rises,
        c.requires.room,
        c.loop-pips.invariant.len,
      )

pub slice_bounds-add_level-count : goal.slice_bounds-add_level-count
slice_bounds-add_level-count g c =
    ends g (goal.at.slice_bounds-add_level-count g c).After-level_place-start

pub slice_bounds-add_level-start : goal.slice_bounds-add_level-start
slice_bounds-add_level-start g c =
    ends g (goal.at.slice_bounds-add_level-start g c).After-level_place-start

pub slice_bounds-add_level-end-in-loop-pips-2 : goal.slice_bounds-add_level-end-in-loop-pips-2
slice_bounds-add_level-end-in-loop-pips-2 g c =
    inside g (goal.at.slice_bounds-add_level-end-in-loop-pips-2 g c).After-level_place-start

pub add_level-requires : goal.add_level-requires
add_level-requires g c =
    let here = (goal.at.add_level-requires g c).After-level_place-start in
    let header = c.args.header.now in
    let version = version_by header.version in
    let p = c.loop-pips.pips in
    let is = c.loop-pips.invariant in (
      search rules,
      (
        low g here,
        (
          c.requires.few,
          (
            c.requires.rows,
            (
              is.known,
              (
                is.kept,
                record {
                  for_means = omega (arith, rises g here, c.requires.places, is.means_len);
                  for_places = omega (arith, rises g here, c.requires.places, is.places_len);
                  for_shares =
                      omega (
                        arith,
                        level-fits version p (slice_index c.loop-pips.places (first_of p))
                            (omega (arith, low g here, bound-most header)) is.before,
                        places-rise version (count_to p) header.count (rises g here),
                        c.requires.work,
                        is.work_len,
                      );
                  for_bytes = omega (
                    arith,
                    ends g here,
                    inside g here,
                    c.level_place-start.ensures.start,
                    c.level_place-start.ensures.end,
                    length-take (c.level_place-start.result.1 - c.level_place-start.result.0)
                        (drop c.level_place-start.result.0 c.loop-pips.room),
                    length-drop c.level_place-start.result.0 c.loop-pips.room,
                  );
                },
              ),
            ),
          ),
        ),
      ),
    )

pub loop-pips-preserved : goal.loop-pips-preserved
loop-pips-preserved g c =
    let here = (goal.at.loop-pips-preserved g c).After-level_place-start in
    let header = c.args.header.now in
    let version = version_by header.version in
    let p = c.loop-pips.pips in
    let is = c.loop-pips.invariant in
    let start = c.level_place-start.result.0 in
    let count = c.level_place-start.result.1 - start in
    let bytes = c.add_level.new.level in
    let next = first_of-next p in
    let begins : start ≤ length c.loop-pips.room = omega (arith, ends g here, inside g here) in
    let long : length bytes ≡ count =
    omega (
      arith,
      c.add_level.ensures.level,
      inside g here,
      length-take count (drop start c.loop-pips.room),
      length-drop start c.loop-pips.room,
    ) in
    record {
      len =
          omega (
            arith,
            is.len,
            long,
            ends g here,
            inside g here,
            length-take start c.loop-pips.room,
            length-append (take start c.loop-pips.room)
                (bytes ++ drop count (drop start c.loop-pips.room)),
            length-append bytes (drop count (drop start c.loop-pips.room)),
            length-drop count (drop start c.loop-pips.room),
            length-drop start c.loop-pips.room,
          );
      work_len = c.add_level.ensures.shares ∙ is.work_len;
      means_len = c.add_level.ensures.means ∙ is.means_len;
      places_len = c.add_level.ensures.places ∙ is.places_len;
      kept = rw next c.add_level.ensures.kept;
      before = rw next
          (omega (
            arith,
            c.add_level.ensures.next,
            level-fits version p (slice_index c.loop-pips.places (first_of p))
                (omega (arith, low g here, bound-most header)) is.before,
          ));
      known = λ full. rw next (c.add_level.ensures.known full);
      written = rw next
          (take-put_mid start count c.loop-pips.room bytes (record_place version (count_to p))
          (omega (arith, long, ends g here, c.level_place-start.ensures.end)) begins
          ∙ ap (λ (bs : List ℕ). bs ++ bytes)
          (ap (λ n. take n c.loop-pips.room) c.level_place-start.ensures.start ∙ is.written)
          ∙ ap (λ (bs : List ℕ). built_to version all-records header.bound (first_of p) ++ bs)
          (c.add_level.ensures.bytes all-records)
          ∙ file-more version header.bound (bytes_of_rank version all-records) (first_of p)
          (count_to p - first_of p)
          ∙ ap (built_to version all-records header.bound) (level-all p));
      rest =
          drop-put_mid start count c.loop-pips.room bytes (record_place version header.count)
          (omega (
            arith,
            ends g here,
            c.level_place-start.ensures.end,
            places-rise version (count_to p) header.count (rises g here),
          ))
          begins long
          ∙ is.rest;
    }

pub returns-clause-built : goal.returns-clause-built
returns-clause-built g c =
    let header = c.args.header.now in
    let last : c.loop-pips.pips ≡ header.bound + 1 =
    omega (arith, c.loop-pips-test.false, c.loop-pips.auto.pips-end) in
    let all : first_of c.loop-pips.pips ≡ header.count =
    ap first_of last ∙ first_of-next header.bound ∙ sym header.counted in
    begins-built (version_by header.version) all-records header.bound header.count
    c.loop-pips.room header.bounded header.counted
    (rw all at c.loop-pips.invariant.written)
