-- The records of the ranks below one stand before its place. So they are the same in two lists of
-- bytes that begin alike, and so is what they say: later bytes change nothing of lower ranks.
use Rattle.std.proofs.Common.{◌≡◌, ℕ, ◌*◌, ◌-◌, ◌^◌, ◌<◌, ◌≤◌, List, length, take, refl, ap, subst, ◌∙◌, arith}
use Rattle.race_model.specs.Prelude.{Board, IsPosition, pips, Throw, roll_index, rank, at_rank, play_in, whole_in}
use Rattle.race_model.specs.Prelude.{IsBestPlay, value_of_parts, board_length, board_place, board_record, mean_parts}
use Rattle.race_model.specs.Prelude.{board_play_of, count_parts, told_count, count_at, board_book, IsLocalOnBoard}
use Rattle.race_model.proofs.Books.SameRanks.{local-same}
use Rattle.race_model.proofs.Ranks.BestPlays.{legal_lower, play-agree_reached}
use Rattle.db_layout.proofs.BoardPlaces.{board_place-rises}
use Rattle.db_layout.proofs.ByteParts.{bytes_at-agree}
use Rattle.db_layout.proofs.LeadingBits.{leads-agree}
use Rattle.db_layout.specs.LowerRecords.{AreRecords}

-- the records of the ranks below one, in lists that begin alike up to its place
pub records-agree : (f g : List ℕ) (n c : ℕ) → take n f ≡ take n g → board_place c ≤ n →
    (r : ℕ) → r < c → board_record f r ≡ board_record g r
records-agree f g n c same within r under =
    bytes_at-agree f g n (board_place r) (board_length (pips (at_rank r))) same
    (omega (arith, within, board_place-rises r c under))

-- two lists of bytes whose records of the ranks below one are the same
module _ (f g : List ℕ) (c : ℕ) (same : (r : ℕ) → r < c → board_record f r ≡ board_record g r)
  where
    -- the mean of a rank
    pub mean_of-agree : (r : ℕ) → r < c → (board_book f).means r ≡ (board_book g).means r
    mean_of-agree r under = ap (λ (bs : List ℕ). value_of_parts (mean_parts bs)) (same r under)

    -- a count of a rank
    pub count_at-agree : (r k : ℕ) → r < c → count_at f r k ≡ count_at g r k
    unfolding count_at
    count_at-agree r k under =
        ap (λ (bs : List ℕ). told_count (pips (at_rank r)) bs k) (same r under)

    -- a play of a position
    pub play_in-agree : (x : Board) → rank x < c → (v : Throw) →
        play_in (board_book f) x v ≡ play_in (board_book g) x v
    play_in-agree x under v =
        ap (λ (bs : List ℕ). board_play_of bs (roll_index v)) (same (rank x) under)

    -- the best play by the means
    pub best_play-agree : (x : Board) → IsPosition x → rank x < c → (v : Throw) →
        IsBestPlay (board_book f).means x v (play_in (board_book f) x v) →
        IsBestPlay (board_book g).means x v (play_in (board_book g) x v)
    best_play-agree x at under v best =
        subst (λ r. IsBestPlay (board_book g).means x v r) (play_in-agree x under v)
        (play-agree_reached (board_book f).means (board_book g).means x v
        (play_in (board_book f) x v)
        (λ unfinished z legal.
        mean_of-agree (rank z) (omega (arith, under, legal_lower x v z at unfinished legal)))
        best)

    -- the equations of a position
    pub local-agree : (x : Board) → IsPosition x → rank x < c → IsLocalOnBoard f x →
        IsLocalOnBoard g x
    local-agree x at under here = record {
      written = record {
        mean = subst (λ (bs : List ℕ). (mean_parts bs).lower < 36 ^ 11) (same (rank x) under)
            here.written.mean;
        counts = λ k le many few.
            subst (λ (bs : List ℕ). (count_parts bs k).lower < 36 ^ 11) (same (rank x) under)
            (here.written.counts k le many few);
      };
      equations =
          local-same (whole_in (board_book f)) (board_book f) (board_book g) c refl mean_of-agree
          (λ r i less inside. ap (λ (bs : List ℕ). board_play_of bs i) (same r less))
          (λ r k less le. ap (λ n. n * 36 ^ (33 - k)) (count_at-agree r k less))
          x at under here.equations;
    }

-- so bytes behind the records of the ranks below one may change
pub records-stay : (f g : List ℕ) (n : ℕ) (offsets leading : List ℕ) →
    take (board_place n) f ≡ take (board_place n) g → length f ≡ length g →
    AreRecords f n offsets leading → AreRecords g n offsets leading
records-stay f g n offsets leading front long are = record {
  few = are.few;
  long = omega (arith, are.long, long);
  told = are.told;
  begin = are.begin;
  as_many = are.as_many;
  lead = λ r less. are.lead r less ∙ leads-agree f g (board_place n) n front (omega arith) r less;
  local = λ z at under. local-agree f g n
      (records-agree f g (board_place n) n front (omega arith)) z at under (are.local z at under);
}
