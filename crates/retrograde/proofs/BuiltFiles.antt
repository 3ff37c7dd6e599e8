-- The file of the records that were made is the built file.
use Rattle.std.proofs.Common.{◌≡◌, ℕ, zero, suc, ◌<◌, ◌≤◌, List, [], refl, sym, subst, arith, le_trans, slice_index}
use Rattle.std.proofs.Common.{slice_index_or}
use Rattle.race_model.specs.Prelude.{Board, IsPosition, pips, Throw, IsRoll, roll_index, Legal, rank, at_rank, count_to}
use Rattle.race_model.specs.Prelude.{Version, greatest_bound, Book, play_in, IsBytes, version_of, bound_of, mean_at}
use Rattle.race_model.specs.Prelude.{play_at, spread_at, book_of, whole, HasShareOver, IsLocalOver, IsLocalAt, IsLowest}
use Rattle.race_model.specs.Prelude.{IsBuilt, IsBestPlay}
use Rattle.race_model.proofs.Plays.Results.{legal_position, legal_pips}
use Rattle.race_model.proofs.Ranks.RankOrder.{rank_bound, at_rank-rank, count_to-rises}
use Rattle.race_model.proofs.Books.SameRanks.{local-same}
use Rattle.race_model.proofs.RightFiles.Right.{greatest_bound-most}
use Rattle.race_model.proofs.Dice.Throws.{index_of_roll}
use Rattle.race_model.proofs.Dice.RollSums.{roll_index-range}
use Rattle.race_model.proofs.Ranks.BestPlays.{best-agree}
use Rattle.retrograde.specs.BuiltRecords.{shares_of, IsMade}
use Rattle.retrograde.specs.AllRecords.{AllRecords, mean_of_rank, plays_of_rank, shares_of_rank, bytes_of_rank}
use Rattle.retrograde.specs.BuiltBytes.{built_file}
use Rattle.db_layout.proofs.WholeFiles.{file-version, file-bound, file-bytes, whole-mean}
use Rattle.db_layout.proofs.WholeFiles.{whole-play, whole-share, whole-is_file}
use Rattle.db_layout.specs.Records.{IsRecordOf}
use Rattle.db_layout.proofs.Bytes.{small_record}
use Rattle.retrograde.proofs.Next.{best-legal}

-- the records of a bound that a version allows
module _ (version : Version) (full : AllRecords) (bound : ℕ)
    (low : bound ≤ greatest_bound version) where
  abbrev means : List ℕ
  means = full.means

  abbrev plays : List (List ℕ)
  plays = full.plays

  abbrev spreads : List (List ℕ)
  spreads = full.spreads

  -- the file that holds them
  abbrev built : List ℕ
  built = built_file version full bound

  -- no bound is over 58 pips
  under-58 : bound ≤ 58
  under-58 = le_trans low (greatest_bound-most version)

  -- a rank of the file is one of all
  all-have : (r : ℕ) → r < count_to bound → r < count_to 58
  all-have r lt = omega (arith, count_to-rises bound 58 under-58)

  -- its records tell what was made
  told : (r : ℕ) → r < count_to bound →
      IsRecordOf version (pips (at_rank r)) (bytes_of_rank version full r) (mean_of_rank full r)
      (plays_of_rank full r) (shares_of_rank full r)
  told r lt = full.made.reads r (all-have r lt) version

  -- what one reads in the file
  mean-read : (r : ℕ) → r < count_to bound → mean_at built r ≡ slice_index means r
  mean-read =
      whole-mean version bound low (bytes_of_rank version full) (mean_of_rank full)
      (plays_of_rank full) (shares_of_rank full) told

  play-read : (r i : ℕ) → r < count_to bound → i < 21 →
      play_at built r i ≡ slice_index (slice_index_or plays r []) i
  play-read =
      whole-play version bound low (bytes_of_rank version full) (mean_of_rank full)
      (plays_of_rank full) (shares_of_rank full) told

  share-read : (r k : ℕ) → r < count_to bound → k ≤ 22 →
      spread_at built r k ≡ slice_index (shares_of spreads r) k
  share-read =
      whole-share version bound low (bytes_of_rank version full) (mean_of_rank full)
      (plays_of_rank full) (shares_of_rank full) told

  -- what was made, as a book
  abbrev said : Book
  said = record {
    further = 21;
    bound = bound;
    means = slice_index means;
    plays = λ r. slice_index (slice_index_or plays r []);
    shares = λ r. slice_index (shares_of spreads r);
  }

  built-bytes : IsBytes built
  built-bytes =
      file-bytes version bound (bytes_of_rank version full)
      (λ r.
      small_record version (pips (at_rank r)) (slice_index means r) (slice_index_or plays r [])
      (slice_index_or spreads r []))
      (count_to bound)

  built-version : version_of built ≡ version
  built-version = file-version version bound (bytes_of_rank version full) (count_to bound)

  built-bound : bound_of built ≡ bound
  built-bound =
      file-bound version bound (bytes_of_rank version full) (count_to bound) under-58

  -- a position of at most the bound
  module _ (x : Board) (at : IsPosition x) (under : pips x ≤ bound) where
    ranked : rank x < count_to bound
    ranked = (rank_bound x bound at).1 under

    result-ranked : (v : Throw) (z : Board) → Legal x v z → rank z < count_to bound
    result-ranked v z legal =
        (rank_bound z bound (legal_position x v z at legal)).1
        (le_trans (legal_pips x v z legal) under)

    here : IsMade means spreads x (slice_index means (rank x)) (slice_index_or plays (rank x) [])
        (shares_of spreads (rank x))
    here =
        subst
        (λ (y : Board).
        IsMade means spreads y (slice_index means (rank x))
        (slice_index_or plays (rank x) []) (shares_of spreads (rank x)))
        (at_rank-rank x at) (full.made.made (rank x) (all-have (rank x) ranked))

    best-of_roll : (v : Throw) → IsRoll v → IsBestPlay (slice_index means) x v (play_in said x v)
    best-of_roll v is =
        subst (λ (u : Throw). IsBestPlay (slice_index means) x u (play_in said x v))
        (index_of_roll v is).1
        (here.best (roll_index v) (roll_index-range v))

    -- what was made meets the equations
    said-local : IsLocalOver whole said x
    said-local = record {
      means = record {
        played = λ v is.
            let leads = best-legal means x v (play_in said x v) at (best-of_roll v is) in
            record { ranked = leads.1; legal = leads.0 };
        best = λ v is. (best-of_roll v is).least;
        mean_is = record { at_end = here.mean_at_end; before = here.mean_before };
      };
      shares = share;
    }
      where
        share : (k : ℕ) → k ≤ 22 → HasShareOver whole said x k
        share zero few = (here.start_at_end, here.start_before)
        share (suc k) few = (
          λ none. here.share_at_end none k,
          λ unfinished. here.share_before unfinished k few,
        )

    is-local_at : IsLocalAt built x
    is-local_at =
        local-same whole said (book_of built) (count_to bound) refl
        (λ r lt. sym (mean-read r lt)) (λ r i lt inside. sym (play-read r i lt inside))
        (λ r k lt few. sym (share-read r k lt few)) x at ranked said-local

    is-lowest : (v : Throw) → IsRoll v → IsLowest built x v
    is-lowest v is =
        (subst (IsBestPlay (mean_at built) x v)
        (sym (play-read (rank x) (roll_index v) ranked (roll_index-range v)))
        (best-agree (slice_index means) (mean_at built) (Legal x v) (play_in said x v)
        (λ z legal. sym (mean-read (rank z) (result-ranked v z legal))) (best-of_roll v is))).lowest

  -- the file is the built file of the bound
  pub is-built : IsBuilt version bound built
  is-built = record {
    bytes = built-bytes;
    version_is = built-version;
    bound_is = built-bound;
    local = record {
      file =
          whole-is_file version bound low (bytes_of_rank version full) (mean_of_rank full)
          (plays_of_rank full) (shares_of_rank full) told;
      written = λ x at under. tt;
      at_each = λ x at under. is-local_at x at (omega (arith, built-bound));
    };
    lowest = λ x at under v is. is-lowest x at under v is;
  }
