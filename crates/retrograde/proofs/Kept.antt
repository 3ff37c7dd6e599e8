-- What is kept of the records, when there is more room for it, and how much room the next pip count
-- needs.
use Rattle.std.proofs.Common.{◌≡◌, ⊎_elim, ℕ, suc, ◌+◌, ◌-◌, ◌*◌, ◌<◌, ◌≤◌, List, ◌++◌, length, take, drop, ap, sym}
use Rattle.std.proofs.Common.{◌∙◌, arith, slice_index}
use Rattle.std.proofs.lemmas.List.{take_at}
use Rattle.std.proofs.Math.Nat.{mul-le-mul_left}
use Rattle.std.proofs.lemmas.Bool.{cases_lt}
use Rattle.race_model.specs.Prelude.{first_of, count_to, Version, record_length, record_place}
use Rattle.race_model.proofs.RightFiles.Places.{record_place-by, record_place-rises}
use Rattle.db_layout.proofs.RecordPlaces.{first_of-next, place_beyond}
use Rattle.retrograde.specs.KeptRecords.{AreKept, level_shares}
use Rattle.retrograde.proofs.KeptShares.{kept-agree, kept-short}

-- nothing is kept yet
pub kept-none : (means places shares : List ℕ) → slice_index places 0 ≡ 0 →
    AreKept 0 means places shares
kept-none means places shares start = record {
  means_are = λ full r lt. absurd (omega (arith, lt));
  shares_are = λ full r lt. absurd (omega (arith, lt));
  placed = record {
    next = λ r lt. absurd (omega (arith, lt));
    few = λ r lt. absurd (omega (arith, lt));
    parts = λ r lt. absurd (omega (arith, lt));
    rise = λ r le. omega (arith, ap (slice_index places) (none r le));
    inside = omega (arith, start);
  };
  small = omega (arith, start);
} where
  none : (r : ℕ) → r ≤ 0 → r ≡ 0
  none r le = omega (arith, le)

-- the first n means, places and shares stay kept where they stay
pub kept-stays : (n : ℕ) (means places shares new_means new_places new_shares :
    List ℕ) → AreKept n means places shares →
    ((r : ℕ) → r < n → slice_index new_means r ≡ slice_index means r) →
    ((r : ℕ) → r ≤ n → slice_index new_places r ≡ slice_index places r) →
    take (slice_index places n) new_shares ≡ take (slice_index places n) shares →
    slice_index places n ≤ length new_shares → AreKept n new_means new_places new_shares
kept-stays n means places shares new_means new_places new_shares kept same_means same_places
    same_shares inside = record {
      means_are = λ full r lt. same_means r lt ∙ kept.means_are full r lt;
      shares_are = λ full r lt.
          kept-agree shares new_shares places new_places r (slice_index places n) same_shares
          (same_places r (omega (arith, lt))) (same_places (r + 1) (omega (arith, lt)))
          (kept.placed.next r lt) (kept.placed.rise (r + 1) (omega (arith, lt)))
          ∙ kept.shares_are full r lt;
      placed = record {
        next = λ r lt.
            omega (
              arith,
              same_places r (omega (arith, lt)),
              same_places (r + 1) (omega (arith, lt)),
              kept.placed.next r lt,
            );
        few = λ r lt.
            omega (
              arith,
              same_places r (omega (arith, lt)),
              same_places (r + 1) (omega (arith, lt)),
              kept.placed.few r lt,
            );
        parts = λ r lt.
            rw (same_places r (omega (arith, lt)), same_places (r + 1) (omega (arith, lt)))
            (kept.placed.parts r lt);
        rise = λ r le.
            omega (arith, same_places r le, same_places n (omega arith), kept.placed.rise r le);
        inside = omega (arith, same_places n (omega arith), inside);
      };
      small = omega (arith, same_places n (omega arith), kept.small);
    }

-- a vector that is lent as a slice holds what the slice holds then
pub lent-whole : {X : Type 0} (new old : List X) (len : ℕ) → length new ≡ length old →
    len ≡ length old → take len (new ++ drop (length new) old) ≡ new
lent-whole new old len same is = take_at new (drop (length new) old) len (same ∙ sym is)

-- the shares of a pip count have room where its records have
pub level-fits : (version : Version) (p place : ℕ) → p ≤ 58 →
    place ≤ record_place version (first_of p) →
    place + level_shares p ≤ record_place version (count_to p)
level-fits version p place low before =
    omega (
      arith,
      before,
      record_place-by version (first_of p),
      record_place-by version (count_to p),
      ap (record_place version) (first_of-next p),
      record_place-by version (first_of (p + 1)),
      place_beyond (record_length version) p,
      ap (λ n. (n - first_of p) * record_length version p) (first_of-next p),
      mul-le-mul_left (count_to p - first_of p) (kept-short version p low),
    )

-- no record begins before one of lower rank
pub places-rise : (version : Version) (r n : ℕ) → r ≤ n →
    record_place version r ≤ record_place version n
places-rise version r n le = ⊎_elim
    (λ less.
    omega (
      arith,
      record_place-rises version r (n - suc r),
      ap (record_place version) (parts r n less),
    ))
    (λ last. omega (arith, ap (record_place version) (same r n le last)))
    (cases_lt r n)
  where
    parts : (a b : ℕ) → a < b → suc a + (b - suc a) ≡ b
    parts a b lt = omega (arith, lt)

    same : (a b : ℕ) → a ≤ b → b ≤ a → a ≡ b
    same a b le last = omega (arith, le, last)
