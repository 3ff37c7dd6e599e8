use Rattle.std.proofs.Common.{◌≡◌, ⊎_elim, ℕ, ◌+◌, ◌-◌, ◌<◌, ◌≤◌, List, length, take, sym, ap, ◌∙◌, arith, replicate}
use Rattle.std.proofs.Common.{refl, slice_index, slice_index_or, vec_len}
use Rattle.std.proofs.lemmas.Bool.{cases_lt}
use Rattle.std.proofs.lemmas.List.{get_or_past, get_or_read, length-take, take-append-le, take-take}
use Rattle.race_model.specs.Prelude.{first_of}
use Rattle.retrograde.proofs.Kept.{kept-stays}
use Rattle.retrograde.proofs.Levels.{level-end}
use Rattle.retrograde.proofs.records.Records.grow.Goals.{In_ok-resize-4}
use Rattle.retrograde.proofs.records.Records.grow.Goals as goal

pub index-requires : goal.index-requires
index-requires c =
    omega (
      arith,
      c.in_ok-resize-2.ensures.len,
      c.from.ensures,
      c.first_of.ensures,
      c.count_to.ensures,
      c.from-count.ensures,
      level-end c.args.pips,
    )

pub overflow_sub-end : goal.overflow_sub-end
overflow_sub-end c =
    omega (
      arith,
      c.level_place-start.ensures.start,
      c.level_place-start.ensures.end,
      c.level_place-start.ensures.rise,
    )

-- a list that is filled up with zeros has what it had, and zeros
filled : (old new : List ℕ) (n r : ℕ) → ((k d : ℕ) → k < n → k < length old →
    slice_index_or new k d ≡ slice_index_or old k d)
    → ((k d : ℕ) → length old ≤ k → k < n → slice_index_or new k d ≡ 0) → r < n →
    slice_index new r ≡ slice_index old r
filled old new n r stays zeros lt = ⊎_elim
    (λ had. stays r 0 lt had)
    (λ past. zeros r 0 past lt ∙ sym (get_or_past old r 0 past))
    (cases_lt r (length old))

-- the room that was made
module _ (c : In_ok-resize-4) where
  -- the places up to the level stay
  same_places : (r : ℕ) → r ≤ first_of c.args.pips →
      slice_index c.resize-2.new.self.items r ≡ slice_index c.args.self.now.places.items r
  same_places r le =
      let old = c.args.self.now.places in
      filled old.items c.resize-2.new.self.items (c.from-count.result + 1) r
      (λ k d below had.
      c.in_ok-resize-2.ensures.by_index.0 k d below (omega (arith, had, old.ok.0)))
      (λ k d past below.
      c.in_ok-resize-2.ensures.by_index.1 k d refl (omega (arith, past, old.ok.0)) below)
      (omega (
        arith,
        le,
        level-end c.args.pips,
        c.from-count.ensures,
        c.count_to.ensures,
      ))

  -- the shares of the level begin at the next place
  place : c.index.result.now ≡ slice_index c.resize-2.new.self.items (first_of c.args.pips)
  place =
      get_or_read c.resize-2.new.self.items _ _
      (omega (
        arith,
        c.in_ok-resize-2.ensures.len,
        c.resize-2.new.self.ok.0,
        level-end c.args.pips,
        c.from.ensures,
        c.first_of.ensures,
        c.from-count.ensures,
        c.count_to.ensures,
      ))
      c.index.ensures 0
      ∙ ap (slice_index c.resize-2.new.self.items) (c.from.ensures ∙ c.first_of.ensures)

  -- the next place is no further than it was
  inside : slice_index c.args.self.now.places.items (first_of c.args.pips)
      ≤ length c.args.self.now.shares.items
  inside = c.requires.kept.placed.inside

pub returns-clause-kept : goal.returns-clause-kept
returns-clause-kept c =
    let here = (goal.at.returns-clause-kept c).In_ok-resize-4 in
    let old = c.args.self.now in
    let n = first_of c.args.pips in
    let k = slice_index old.places.items n in
    let size = c.index.result.now + c.shares_of_level.result in
    let starts : c.index.result.now ≡ k = place here ∙ same_places here n (omega arith) in
    kept-stays n old.means.items old.places.items old.shares.items c.resize.new.self.items
    c.resize-2.new.self.items c.resize-3.new.self.items c.requires.kept
    (λ r lt.
    filled old.means.items c.resize.new.self.items c.from-count.result r
    (λ k d below had.
    c.in_ok-resize.ensures.by_index.0 k d below (omega (arith, had, old.means.ok.0)))
    (λ k d past below.
    c.in_ok-resize.ensures.by_index.1 k d refl (omega (arith, past, old.means.ok.0)) below)
    (omega (arith, lt, level-end c.args.pips, c.from-count.ensures, c.count_to.ensures)))
    (same_places here)
    (ap (take k) c.in_ok-resize-3.ensures.items
    ∙ take-append-le k (take size old.shares.items)
    (replicate (size - vec_len old.shares) 0)
    (omega (arith, starts, inside here, length-take size old.shares.items))
    ∙ take-take k size old.shares.items (omega (arith, starts)))
    (omega (
      arith,
      starts,
      c.in_ok-resize-3.ensures.len,
      c.resize-3.new.self.ok.0,
    ))

pub returns-clause-room : goal.returns-clause-room
returns-clause-room c =
    let here = (goal.at.returns-clause-room c).In_ok-resize-4 in
    record {
      for_means =
          omega (
            arith,
            c.in_ok-resize.ensures.len,
            c.resize.new.self.ok.0,
            c.from-count.ensures,
            c.count_to.ensures,
          );
      for_places =
          omega (
            arith,
            c.in_ok-resize-2.ensures.len,
            c.resize-2.new.self.ok.0,
            c.from-count.ensures,
            c.count_to.ensures,
          );
      for_shares =
          omega (
            arith,
            c.in_ok-resize-3.ensures.len,
            c.resize-3.new.self.ok.0,
            c.shares_of_level.ensures.count,
            place here,
          );
      for_bytes =
          omega (
            arith,
            c.in_ok-resize-4.ensures.len,
            c.resize-4.new.self.ok.0,
            c.level_place-start.ensures.start,
            c.level_place-start.ensures.end,
            c.level_place-start.ensures.rise,
          );
    }
