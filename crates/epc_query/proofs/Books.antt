-- What a right book says of a position of at most its bound.
use Rattle.std.proofs.Common.{◌≡◌, ℕ, ◌<◌, ◌≤◌, sym, ap, subst, ◌∙◌, arith, le_trans}
use Rattle.race_model.specs.Prelude.{Board, IsPosition, pips, Throw, Legal, rank, at_rank, count_to, Book, play_in}
use Rattle.race_model.specs.Prelude.{recorded_in, IsPlayedIn, IsRightBook}
use Rattle.race_model.proofs.Plays.Results.{legal_position, legal_pips}
use Rattle.race_model.proofs.Ranks.RankOrder.{rank_bound, at_rank-rank}
use Rattle.race_model.proofs.Ranks.PositionTotals.{count_to-most}

-- the rank of a position of at most the bound is one that the book has
pub rank_low : (b : Book) (x : Board) → IsPosition x → pips x ≤ b.bound → rank x < count_to b.bound
rank_low b x position within = (rank_bound x b.bound position).1 within

-- the pip count of a position is that of the position of its rank
pub pips_of_rank : (x : Board) (p r : ℕ) → IsPosition x → p ≡ pips x → r ≡ rank x →
    p ≡ pips (at_rank r)
pips_of_rank x p r position pips_are ranked =
    pips_are ∙ ap pips (sym (ap at_rank ranked ∙ at_rank-rank x position))

module _ (b : Book) (x : Board) (position : IsPosition x) (within : pips x ≤ b.bound) (v : Throw)
  where
    -- so is that of a result of a throw from there
    pub result_low : (y : Board) → Legal x v y → rank y < count_to b.bound
    result_low y legal =
        rank_low b y (legal_position x v y position legal)
        (le_trans (legal_pips x v y legal) within)

    module _ (right : IsRightBook b) where
      -- the recorded play is legal, and its number is a rank
      pub played : IsPlayedIn b x v
      played = (right x position within).played v

      -- the book has that rank
      pub played_low : play_in b x v < count_to b.bound
      played_low =
          subst (λ r. r < count_to b.bound) played.ranked
          (result_low (recorded_in b x v) played.legal)

      -- the rank of the recorded play is below the count of all positions
      pub played_under : play_in b x v < 54264
      played_under = omega (arith, played_low, count_to-most b.bound)
