-- The upgrade of an accepted file: its records hold what those of the file hold.
use Rattle.std.proofs.Common.{◌≡◌, ⊎_elim, ℕ, zero, suc, ◌*◌, ◌^◌, ◌<◌, ◌≤◌, List, Option, get_or, sum, refl, sym, ap}
use Rattle.std.proofs.Common.{subst, ◌∙◌, arith, le_trans, cond, leb, slice_index}
use Rattle.std.proofs.lemmas.List.{get_or_past}
use Rattle.std.proofs.lemmas.Bool.{cases_lt}
use Rattle.race_model.specs.Prelude.{Board, IsPosition, pips, roll_at, roll_index, rank, at_rank, count_to, most_rolls}
use Rattle.race_model.specs.Prelude.{Version, full, compact, record_at, mean_of, play_of, mean_at, play_at, spread_at}
use Rattle.race_model.specs.Prelude.{bound_of, whole, IsLocalDatabase, told_share, HasSameNumbers, IsUpgrade}
use Rattle.race_model.proofs.Dice.Throws.{roll_of_index}
use Rattle.race_model.proofs.Dice.RollSums.{roll_index-range}
use Rattle.race_model.proofs.FirstFaults.Questions.{within_bound}
use Rattle.race_model.proofs.Ranks.RankOrder.{rank_bound}
use Rattle.race_model.proofs.Ranks.PositionTotals.{rank-at_rank, count_to-most}
use Rattle.race_model.proofs.Strategies.Horizons.{most_rolls-most}
use Rattle.race_model.proofs.RightFiles.Right.{bound_of-most, right_of_local}
use Rattle.race_model.proofs.RightFiles.SameNumbers.{right_of_same}
use Rattle.race_model.proofs.RightFiles.ToldShares.{told}
use Rattle.db_layout.specs.Records.{record_of, IsHeld, IsRecordOf}
use Rattle.db_layout.specs.WholeFiles.{file_of}
use Rattle.db_layout.specs.Writes.{AppendsPart}
use Rattle.std.specs.Io.KnownBytes.{Appends}
use Rattle.db_layout.proofs.Bytes.{record_reads, mean_fits, shares_fit, small_record}
use Rattle.db_layout.proofs.WholeFiles.{file-version, file-bound, file-bytes, whole-mean}
use Rattle.db_layout.proofs.WholeFiles.{whole-play, whole-share, whole-is_file}
use Rattle.certificate.specs.RecordNumbers.{plays_of, shares_of}
use Rattle.certificate.specs.Upgrades.{compact_record, WritesUpgrade, WritesUpgradePart}
use Rattle.certificate.specs.Upgrades.{IsUpgradeRefused, IsLater}
use Rattle.certificate.specs.declared.upgrade_fault.UpgradeFault.{UpgradeFault}
use Rattle.certificate.specs.declared.upgrade_fault.UpgradeFault.TheVariants.{NotOld, Read, Write}
use Rattle.certificate.proofs.Accepted.{accepted-right, accepted-mean, accepted-total, accepted-under}
use Rattle.certificate.proofs.RecordBytes.{mean-of_record, play-of_record, share-of_record}
use Rattle.certificate.proofs.RecordBytes.{get_or-plays_of, length-plays_of, get_or-shares_of}
use Rattle.certificate.proofs.RecordBytes.{length-shares_of}

-- a share is told by itself and by no other
told_share-same : (version : Version) (p : ℕ) (s t : ℕ → ℕ) (k : ℕ) → s k ≡ t k →
    told_share version p s k ≡ told_share version p t k
told_share-same full p s t k e = e
told_share-same compact p s t zero e = refl
told_share-same compact p s t (suc k) e = ap (λ n. cond (leb (suc k) (most_rolls p)) n 0) e

-- the header and the first records of version 2 that hold the numbers of a file
abbrev pub upgraded_to : List ℕ → ℕ → List ℕ
upgraded_to f n = file_of compact (bound_of f) (compact_record f) n

module _ (f : List ℕ) (local : IsLocalDatabase f) where
  -- a rank of the file
  module _ (r : ℕ) (under : r < count_to (bound_of f)) where
    abbrev x : Board
    x = at_rank r

    abbrev bytes : List ℕ
    bytes = record_at f r

    at : IsPosition x
    at = (within_bound (bound_of f) r under).0

    pub low-here : pips x ≤ bound_of f
    low-here = (within_bound (bound_of f) r under).1

    is_rank : rank x ≡ r
    is_rank = rank-at_rank r (below (count_to (bound_of f)) under (count_to-most (bound_of f)))
      where
        below : (c : ℕ) → r < c → c ≤ 54264 → r < 54264
        below c h le = omega (arith, h, le)

    -- its numbers are those of an accepted record
    pub mean-here : mean_of bytes ≤ 22 * whole
    mean-here =
        subst (λ m. m ≤ 22 * whole) (ap (mean_at f) is_rank ∙ sym (mean-of_record f r))
        (accepted-mean f local x at low-here)

    pub total-here : sum (shares_of bytes) ≡ whole
    total-here =
        ap (λ k. sum (shares_of (record_at f k))) (sym is_rank)
        ∙ accepted-total f local x at low-here

    play-here : (i : ℕ) → i < 21 → play_of bytes i < 2 ^ 16
    play-here i lt =
        omega (
          arith,
          play-of_record f r i,
          ap (λ k. play_at f k i) is_rank,
          ap (play_at f (rank x)) (roll_of_index i lt).1,
          accepted-under f local x at low-here (roll_at i),
          count_to-most (bound_of f),
        )

    plays-here : (i : ℕ) → get_or (plays_of bytes) i 0 < 2 ^ 16
    plays-here i = ⊎_elim
        (λ lt. subst (λ n. n < 2 ^ 16) (sym (get_or-plays_of bytes i lt)) (play-here i lt))
        (λ past.
        subst (λ n. n < 2 ^ 16)
        (sym (get_or_past (plays_of bytes) i 0 (omega (arith, past, length-plays_of bytes))))
        (omega arith))
        (cases_lt i 21)

    share-here : (k : ℕ) → k ≤ 22 → get_or (shares_of bytes) k 0 ≡ spread_at f (rank x) k
    share-here k few =
        get_or-shares_of bytes k (omega (arith, few))
        ∙ (share-of_record f r k ∙ ap (λ n. spread_at f n k) (sym is_rank))

    -- no share is lost
    pub held-here : IsHeld compact (pips x) (shares_of bytes)
    held-here k few =
        share-here k few
        ∙ (told compact f x k at (accepted-right f local x at low-here) few
        ∙ told_share-same compact (pips x) (spread_at f (rank x)) (slice_index (shares_of bytes))
        k (sym (share-here k few)))

    reads-here : IsRecordOf compact (pips x) (compact_record f r) (mean_of bytes)
        (plays_of bytes) (shares_of bytes)
    unfolding compact_record
    reads-here =
        record_reads compact (pips x) (mean_of bytes) (plays_of bytes) (shares_of bytes)
        (most_rolls-most (pips x) (le_trans low-here (bound_of-most f local.file))) held-here
        (mean_fits (mean_of bytes) mean-here) (length-plays_of bytes) plays-here
        (length-shares_of bytes) (shares_fit (shares_of bytes) total-here)

  -- the file of version 2 that has all these records
  abbrev pub upgraded : List ℕ
  upgraded = upgraded_to f (count_to (bound_of f))

  low : bound_of f ≤ 58
  low = bound_of-most f local.file

  pub same-numbers : HasSameNumbers f upgraded
  same-numbers = record {
    bound =
        sym (file-bound compact (bound_of f) (compact_record f) (count_to (bound_of f)) low);
    means =
        λ x at within.
        sym (mean-of_record f (rank x))
        ∙ sym (whole-mean compact (bound_of f) low (compact_record f)
        (λ r. mean_of (record_at f r)) (λ r. plays_of (record_at f r))
        (λ r. shares_of (record_at f r)) reads-here (rank x)
        ((rank_bound x (bound_of f) at).1 within));
    plays =
        λ x v at within.
        sym (play-of_record f (rank x) (roll_index v))
        ∙ (sym (get_or-plays_of (record_at f (rank x)) (roll_index v) (roll_index-range v))
        ∙ sym (whole-play compact (bound_of f) low (compact_record f)
        (λ r. mean_of (record_at f r)) (λ r. plays_of (record_at f r))
        (λ r. shares_of (record_at f r)) reads-here (rank x) (roll_index v)
        ((rank_bound x (bound_of f) at).1 within) (roll_index-range v)));
    shares =
        λ x k at within few.
        sym (share-of_record f (rank x) k)
        ∙ (sym (get_or-shares_of (record_at f (rank x)) k (omega (arith, few)))
        ∙ sym (whole-share compact (bound_of f) low (compact_record f)
        (λ r. mean_of (record_at f r)) (λ r. plays_of (record_at f r))
        (λ r. shares_of (record_at f r)) reads-here (rank x) k
        ((rank_bound x (bound_of f) at).1 within) few));
  }

  -- it is the upgrade
  pub is-upgrade : IsUpgrade f upgraded
  unfolding compact_record
  is-upgrade = record {
    bytes =
        file-bytes compact (bound_of f) (compact_record f)
        (λ r.
        small_record compact (pips (at_rank r)) (mean_of (record_at f r))
        (plays_of (record_at f r)) (shares_of (record_at f r)))
        (count_to (bound_of f));
    version_is =
        file-version compact (bound_of f) (compact_record f) (count_to (bound_of f));
    right =
        right_of_same f upgraded (right_of_local f local)
        (whole-is_file compact (bound_of f) low (compact_record f)
        (λ r. mean_of (record_at f r)) (λ r. plays_of (record_at f r))
        (λ r. shares_of (record_at f r)) reads-here)
        same-numbers;
    same = same-numbers;
  }

  -- a prefix of it was written
  pub part-written : (old new : Option (List ℕ)) → AppendsPart old new upgraded →
      WritesUpgradePart f old new
  part-written old new part = (upgraded, is-upgrade, part)

  -- all of it was written, and nothing else
  pub all-written : (old new : Option (List ℕ)) (n : ℕ) → n ≡ count_to (bound_of f) →
      Appends old new (upgraded_to f n) → WritesUpgrade f old new
  all-written old new n e all =
      (upgraded, is-upgrade, subst (λ (m : ℕ). Appends old new (upgraded_to f m)) e all)

-- where a prefix was written, a fault that comes while records are written may be answered
pub refused-later : (f : List ℕ) (old new : Option (List ℕ)) (fault : UpgradeFault) →
    IsLater fault → WritesUpgradePart f old new → IsUpgradeRefused f old new fault
refused-later f old new NotOld later part = absurd later
refused-later f old new Read later part = part
refused-later f old new Write later part = part

-- the bytes of such a record, by its numbers
pub record-same : (f bytes : List ℕ) (r p mean : ℕ) (version : Version) (plays shares : List ℕ) →
    bytes ≡ record_at f r → version ≡ compact → p ≡ pips (at_rank r) → mean ≡ mean_of bytes →
    plays ≡ plays_of bytes → shares ≡ shares_of bytes →
    record_of version p mean plays shares ≡ compact_record f r
unfolding compact_record
record-same f bytes r p mean version plays shares lent old pips_is mean_is plays_are shares_are =
    rw (old, pips_is, mean_is, plays_are, shares_are, lent) refl
