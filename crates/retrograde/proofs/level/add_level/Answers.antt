use Rattle.std.proofs.Common.{◌≡◌, inl, inr, ⊎_elim, ℕ, suc, ◌+◌, ◌-◌, ◌*◌, ◌<◌, ◌≤◌, List, length, take, sym, ap, ◌∙◌}
use Rattle.std.proofs.Common.{arith, rules, add-one, sum, refl, get_or-set_other, get_or-set_same, slice_index}
use Rattle.std.proofs.Common.{slice_set}
use Rattle.std.proofs.lemmas.Bool.{cases_lt}
use Rattle.std.proofs.lemmas.List.{length-take, length-set, get_or-take, take_all}
use Rattle.race_model.specs.Prelude.{pips, rank, at_rank, first_of, count_to, most_rolls, Version, version_by}
use Rattle.race_model.specs.Prelude.{record_place}
use Rattle.race_model.proofs.Ranks.RankOrder.{count_to-rises}
use Rattle.race_model.proofs.Ranks.PositionTotals.{count_to-58, count_to-most}
use Rattle.race_model.proofs.Strategies.Horizons.{most_rolls-most}
use Rattle.race_model.proofs.RightFiles.Places.{record_place-rises, record_place-next}
use Rattle.least_plays.specs.Known.{HasRows}
use Rattle.least_plays.proofs.Knowing.{knows_agree}
use Rattle.db_layout.proofs.Bounds.{bound-most}
use Rattle.db_layout.specs.Records.{record_of}
use Rattle.db_layout.specs.WholeFiles.{records_from}
use Rattle.retrograde.specs.AllRecords.{AllRecords, mean_of_rank, shares_of_rank, bytes_of_rank}
use Rattle.retrograde.specs.KeptRecords.{IsRecordOfRank}
use Rattle.retrograde.specs.KeptShares.{shares_kept}
use Rattle.retrograde.proofs.Existence.{all-records}
use Rattle.retrograde.proofs.Levels.{pips-at_rank, level-end}
use Rattle.retrograde.proofs.Placed.{bytes-of_record, length-bytes_of_rank, and-record}
use Rattle.retrograde.proofs.RankShares.{none-of_rank, whole-of_rank}
use Rattle.retrograde.proofs.level.add_level.Given.{Over}
use Rattle.retrograde.proofs.level.add_level.Goals.{After-from-index, After-next_record-mean, After-as_slice}
use Rattle.retrograde.proofs.level.add_level.Goals as goal

-- where a rank of the level stands among all
module _ (g : Over) (c : After-from-index g) where
  -- it is below the count of the level
  below : c.loop-rank.rank < count_to c.args.pips
  below = omega (arith, c.count_to-rank-end.ensures, c.loop-rank-test.true)

  -- the rank is below the count of positions of 58 pips
  under : c.loop-rank.rank < count_to 58
  under =
      omega (
        arith,
        below,
        count_to-rises c.args.pips 58
            (omega (arith, c.requires.low, bound-most c.args.header.now)),
      )

  -- the means that are handed on are those of all lower ranks
  means_made : length (take c.from-index.result c.loop-rank.means) ≡ c.loop-rank.rank
  means_made =
      omega (
        arith,
        c.from-index.ensures,
        below,
        c.loop-rank.invariant.means_len,
        c.requires.room.for_means,
        length-take c.from-index.result c.loop-rank.means,
      )

  -- its position has the pip count
  pips_is : pips (at_rank c.loop-rank.rank) ≡ c.args.pips
  pips_is = pips-at_rank c.args.pips c.loop-rank.rank c.loop-rank.invariant.from below

  -- the pip count of the position is low
  low : c.args.pips ≤ 58
  low = omega (arith, c.requires.low, bound-most c.args.header.now)

pub loop-rank-init : goal.loop-rank-init
unfolding records_from
loop-rank-init g c =
    let first : c.first_of-rank.result ≡ first_of c.args.pips = c.first_of-rank.ensures in
    let none : c.first_of-rank.result - first_of c.args.pips ≡ 0 = omega (arith, first) in
    record {
      from = omega (arith, first);
      means_len = refl;
      places_len = refl;
      shares_len = refl;
      level_len = refl;
      kept = rw first c.requires.kept;
      known = rw first c.requires.known;
      next =
          omega (
            arith,
            ap (slice_index c.args.places.now) first,
            ap (λ n. n * (16 * (most_rolls c.args.pips + 1))) none,
          );
      start =
          omega (arith, ap (record_place (version_by c.args.header.now.version)) first);
      written = λ full.
          sym (ap
          (records_from (bytes_of_rank (version_by c.args.header.now.version) full)
          (first_of c.args.pips)) none);
    }

pub unwrap-position-requires : goal.unwrap-position-requires
unwrap-position-requires g c =
    c.unrank.ensures.some.1
    (omega (arith, c.count_to-rank-end.ensures, c.loop-rank-test.true, count_to-most c.args.pips))

pub invariant_of-lower : goal.invariant_of-lower
invariant_of-lower g c =
    let here = (goal.at.invariant_of-lower g c).After-from-index in
    let made = means_made g here in
    let is = c.loop-rank.invariant in record {
      few = omega (arith, made, under g here, count_to-58);
      more =
          omega (
            arith,
            made,
            is.places_len,
            below g here,
            c.requires.room.for_places,
          );
      placed = rw made is.kept.placed;
      wholes = λ r lt.
          ap sum (is.kept.shares_are all-records r (omega (arith, made, lt)))
          ∙ whole-of_rank all-records r (omega (arith, made, lt, under g here));
    }

pub advance-plays-requires : goal.advance-plays-requires
advance-plays-requires g c =
    let here = (goal.at.advance-plays-requires g c).After-from-index in
    let n = c.loop-rank.rank in
    let ranked = rw c.unwrap-position.ensures at c.unrank.ensures.ranked in
    let is = c.loop-rank.invariant in
    let made = means_made g here in
    let rises = count_to-rises c.args.pips c.args.header.now.bound c.requires.low in
    let rows : HasRows g.row.ROWS n = record {
      few = c.requires.few;
      own = ⊎_elim
          (λ all. inl (omega (arith, all, below g here, rises, c.args.header.now.counted)))
          (λ usual. inr usual) c.requires.rows;
    } in (
      search rules,
      (
        rw ranked rows,
        (
          omega (arith, ranked, made),
          rw ranked
              (knows_agree (mean_of_rank all-records)
              (slice_index (take c.from-index.result c.loop-rank.means)) c.loop-rank.least n
              (λ q lt.
              sym (is.kept.means_are all-records q (omega (arith, lt)))
              ∙ sym (get_or-take c.from-index.result c.loop-rank.means q 0
              (omega (arith, lt, made, c.from-index.ensures))))
              (is.known all-records)),
        ),
      ),
    )

pub next_record-mean-requires : goal.next_record-mean-requires
next_record-mean-requires g c =
    let here = (goal.at.next_record-mean-requires g c).After-from-index in
    let value = rw c.unwrap-position.ensures at c.unrank.ensures.value in
    let ranked = rw c.unwrap-position.ensures at c.unrank.ensures.ranked in
    let position = rw c.unwrap-position.ensures at c.unrank.ensures.position in
    let is = c.loop-rank.invariant in
    let made = means_made g here in record {
      position = position;
      low = omega (arith, ap pips value, pips_is g here, low g here);
      lower = record {
        means_are = λ full r lt.
            get_or-take c.from-index.result c.loop-rank.means r 0
            (omega (arith, lt, made, c.from-index.ensures))
            ∙ is.kept.means_are full r (omega (arith, lt, made));
        shares_are = λ full r lt. is.kept.shares_are full r (omega (arith, lt, made));
        placed = rw made is.kept.placed;
        small = rw made is.kept.small;
      };
      next = ranked ∙ sym made;
      best = c.advance-plays.ensures.best;
    }

-- what was made is the record of the rank
module _ (g : Over) (c : After-next_record-mean g) where
  -- its position has the rank
  ranked : rank c.unwrap-position.result ≡ c.loop-rank.rank
  ranked = rw c.unwrap-position.ensures at c.unrank.ensures.ranked

  -- so it is the record of that rank
  record_is : (full : AllRecords) →
      IsRecordOfRank full c.loop-rank.rank c.next_record-mean.result
      c.advance-plays.result c.next_record-mean.new.spread
  record_is full = rw ranked at (c.next_record-mean.ensures full)

pub keep-requires-clause-none : goal.keep-requires-clause-none
keep-requires-clause-none g c k past =
    let here = (goal.at.keep-requires-clause-none g c).After-from-index in
    let made = record_is g (goal.at.keep-requires-clause-none g c).After-next_record-mean in
    ap (λ (xs : List ℕ). slice_index xs k) (made all-records).shares_are
    ∙ none-of_rank all-records c.loop-rank.rank (under g here) k
    (omega (arith, past, c.most_rolls-end.ensures, ap most_rolls (pips_is g here)))

pub keep-requires-clause-few : goal.keep-requires-clause-few
keep-requires-clause-few g c =
    omega (
      arith,
      c.most_rolls-end.ensures,
      most_rolls-most c.args.pips
          (low g (goal.at.keep-requires-clause-few g c).After-from-index),
    )

-- the bytes that were made of a rank
module _ (g : Over) (c : After-as_slice g) (below : c.loop-rank.rank < count_to c.args.pips)
    (under : c.loop-rank.rank < count_to 58)
    (pips_is : pips (at_rank c.loop-rank.rank) ≡ c.args.pips)
    (full : AllRecords) (made : IsRecordOfRank full c.loop-rank.rank c.next_record-mean.result
    c.advance-plays.result c.next_record-mean.new.spread) where
  abbrev version : Version
  version = version_by c.args.header.now.version

  -- are those of its record
  bytes_are : c.as_slice.result.now ≡ bytes_of_rank version full c.loop-rank.rank
  bytes_are =
      c.as_slice.ensures.value
      ∙ c.put_record_bytes.ensures
      ∙ ap
      (λ p.
      record_of version p c.next_record-mean.result c.advance-plays.result
      c.next_record-mean.new.spread)
      (sym pips_is)
      ∙ bytes-of_record version full c.loop-rank.rank c.next_record-mean.result
      c.advance-plays.result c.next_record-mean.new.spread made

  -- they end where the next record begins
  ends : record_place version c.loop-rank.rank + length c.as_slice.result.now
      ≡ record_place version (c.loop-rank.rank + 1)
  ends =
      omega (
        arith,
        ap length bytes_are,
        length-bytes_of_rank version full c.loop-rank.rank under,
        record_place-next version c.loop-rank.rank,
        ap (record_place version) (add-one c.loop-rank.rank),
      )

  -- the bytes of the record end inside the level
  inside : c.loop-rank.start + length c.as_slice.result.now ≤ length c.loop-rank.level
  inside =
      let n = c.loop-rank.rank in
      let count = count_to c.args.pips in
      let parts : suc n + (count - suc n) ≡ count = omega (arith, below) in
      omega (
        arith,
        ends,
        c.loop-rank.invariant.start,
        c.loop-rank.invariant.level_len,
        c.requires.room.for_bytes,
        record_place-next version n,
        record_place-rises version n (count - suc n),
        ap (record_place version) parts,
        ap (record_place version) (add-one n),
      )

pub put_bytes-start-requires : goal.put_bytes-start-requires
put_bytes-start-requires g c =
    let here = (goal.at.put_bytes-start-requires g c).After-from-index in
    let made = record_is g (goal.at.put_bytes-start-requires g c).After-next_record-mean in
    inside g (goal.at.put_bytes-start-requires g c).After-as_slice (below g here) (under g here)
    (pips_is g here) all-records (made all-records)

pub loop-rank-preserved : goal.loop-rank-preserved
loop-rank-preserved g c =
    let here = (goal.at.loop-rank-preserved g c).After-from-index in
    let last = (goal.at.loop-rank-preserved g c).After-as_slice in
    let made = record_is g (goal.at.loop-rank-preserved g c).After-next_record-mean in
    let ranked = rw c.unwrap-position.ensures at c.unrank.ensures.ranked in
    let n = c.loop-rank.rank in
    let is = c.loop-rank.invariant in
    let bytes = c.as_slice.result.now in
    let version = version_by c.args.header.now.version in
    let more : n + 1 - first_of c.args.pips ≡ n - first_of c.args.pips + 1 =
    omega (arith, is.from) in
    let this : first_of c.args.pips + (n - first_of c.args.pips) ≡ n = omega (arith, is.from) in
    let at : c.from-index.result < length c.loop-rank.means =
    omega (
      arith,
      c.from-index.ensures,
      below g here,
      is.means_len,
      c.requires.room.for_means,
    ) in
    record {
      from = omega (arith, is.from);
      means_len =
          length-set c.loop-rank.means c.from-index.result c.next_record-mean.result
          ∙ is.means_len;
      places_len = c.keep.ensures.places ∙ is.places_len;
      shares_len = c.keep.ensures.room ∙ is.shares_len;
      level_len = c.put_bytes-start.ensures.len ∙ is.level_len;
      kept = record {
        means_are = λ full r less. ⊎_elim
            (λ earlier.
            get_or-set_other c.loop-rank.means c.from-index.result r
            c.next_record-mean.result 0
            (λ same. omega (arith, c.from-index.ensures))
            ∙ is.kept.means_are full r earlier)
            (λ late.
            let e : r ≡ c.from-index.result = omega (arith, c.from-index.ensures) in
            ap
            (slice_index
            (slice_set c.loop-rank.means c.from-index.result c.next_record-mean.result)) e
            ∙ get_or-set_same c.loop-rank.means c.from-index.result
            c.next_record-mean.result 0 at
            ∙ (made full).mean_is
            ∙ ap (mean_of_rank full) (omega (arith, c.from-index.ensures, e)))
            (cases_lt r n);
        shares_are = λ full r less. ⊎_elim
            (λ earlier. c.keep.ensures.others r earlier ∙ is.kept.shares_are full r earlier)
            (λ late.
            let e : r ≡ n = omega (arith, less, late) in
            ap (shares_kept c.keep.new.room c.keep.new.places) e
            ∙ c.keep.ensures.kept
            ∙ (made full).shares_are
            ∙ ap (shares_of_rank full) (sym e))
            (cases_lt r n);
        placed = c.keep.ensures.placed;
        small =
            omega (
              arith,
              c.keep.ensures.next,
              is.kept.small,
              c.most_rolls-end.ensures,
              most_rolls-most c.args.pips (low g here),
            );
      };
      known = λ full.
          knows_agree (slice_index (take c.from-index.result c.loop-rank.means))
          (mean_of_rank full) c.advance-plays.new.self (n + 1)
          (λ q lt.
          get_or-take c.from-index.result c.loop-rank.means q 0
          (omega (arith, lt, c.from-index.ensures))
          ∙ is.kept.means_are full q (omega (arith, lt)))
          (rw ranked at c.advance-plays.ensures.known);
      next =
          omega (
            arith,
            c.keep.ensures.next,
            is.next,
            c.most_rolls-end.ensures,
            ap (λ k. k * (16 * (most_rolls c.args.pips + 1))) more,
          );
      start =
          omega (
            arith,
            c.put_bytes-start.ensures.end,
            is.start,
            ends g last (below g here) (under g here) (pips_is g here) all-records
                (made all-records),
          );
      written = λ full.
          and-record (bytes_of_rank version full) (first_of c.args.pips)
          (n - first_of c.args.pips) (take c.loop-rank.start c.loop-rank.level) bytes
          (take c.put_bytes-start.result c.put_bytes-start.new.room) c.put_bytes-start.ensures.put
          (is.written full)
          (bytes_are g last (below g here) (under g here) (pips_is g here) full (made full)
          ∙ ap (bytes_of_rank version full) (sym this))
          ∙ ap (records_from (bytes_of_rank version full) (first_of c.args.pips)) (sym more);
    }

-- at the end the rank is the count of the level
pub returns : goal.returns
returns g c =
    let is = c.loop-rank.invariant in
    let all : c.loop-rank.rank ≡ count_to c.args.pips =
    omega (
      arith,
      c.loop-rank-test.false,
      c.count_to-rank-end.ensures,
      c.first_of-rank.ensures,
      level-end c.args.pips,
      c.loop-rank.auto.rank-end,
    ) in
    let whole : length c.loop-rank.level ≡ c.loop-rank.start =
    omega (
      arith,
      is.start,
      is.level_len,
      c.requires.room.for_bytes,
      ap (record_place (version_by c.args.header.now.version)) all,
    ) in
    record {
      known = rw all at is.known;
      kept = rw all at is.kept;
      next = rw all at is.next;
      bytes = λ full.
          sym (take_all c.loop-rank.start c.loop-rank.level (omega (arith, whole)))
          ∙ is.written full
          ∙ ap
          (λ n.
          records_from (bytes_of_rank (version_by c.args.header.now.version) full)
          (first_of c.args.pips) (n - first_of c.args.pips))
          all;
      means = is.means_len;
      places = is.places_len;
      shares = is.shares_len;
      level = is.level_len;
    }
