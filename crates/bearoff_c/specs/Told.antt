-- What the calls tell by a book, as C has it.
use Rattle.std.specs.Prelude.{◌≡◌, ℕ, ◌*◌, ◌-◌, ◌<◌, ◌≤◌, map, slice_index, ◌+◌, List, length, slice_index_or}
use Rattle.std.specs.Prelude.{true, false}
use Rattle.race_model.specs.Prelude.{Board, IsPosition, pips, Throw, Legal, IsFirstPlay, count_over, IsLeastIn, Book}
use Rattle.race_model.specs.Prelude.{mean_in, share_in, recorded_in, follow_in, whole_in, loss_in, IsLossIn, IsFraction}
use Rattle.race_model.specs.Prelude.{IsThousandths, rank}
use Rattle.bearoff_c.specs.declared.numbers.Long.{Long}
use Rattle.bearoff_c.specs.declared.numbers.RoundedLong.{RoundedLong}
use Rattle.bearoff_c.specs.declared.numbers.LongFraction.{LongFraction}
use Rattle.bearoff_c.specs.declared.calls.distributions.Distribution.{Distribution}
use Rattle.bearoff_c.specs.declared.calls.distributions.Chance.{Chance}
use Rattle.bearoff_c.specs.declared.calls.plays.RecordedPlay.{RecordedPlay}
use Rattle.epc_query.specs.Kinds.{rolls_in}
use Rattle.bearoff_c.specs.declared.calls.means.Wastage.{Wastage}
use Rattle.bearoff_c.specs.FileBooks.{chance_in, IsRoundedPipsIn}
use Rattle.bearoff_c.specs.Longs.{long_number_of}
use Rattle.bearoff_c.specs.ChoiceLists.{moves_in, AreZerosAfter}

-- the mean number of rolls, which is the least over all strategies
pub record SaysMean (b : Book) (x : Board) (mean : Long) : Type 0 where
  pub least : IsLeastIn (rolls_in b) x (mean_in b x)
  pub recorded : long_number_of mean ≡ mean_in b x

-- that mean, in lowest terms and rounded
pub record SaysRolls (b : Book) (x : Board) (told : RoundedLong) : Type 0 where
  pub least : IsLeastIn (rolls_in b) x (mean_in b x)
  pub mean : IsFraction (mean_in b x) (whole_in b)
      (long_number_of told.exact.numerator) (long_number_of told.exact.denominator)
  pub rounded : IsThousandths (long_number_of told.exact.numerator)
      (long_number_of told.exact.denominator) told.thousandths

-- the effective pip count, 49/6 of that mean
pub record SaysEpc (b : Book) (x : Board) (told : RoundedLong) : Type 0 where
  pub least : IsLeastIn (rolls_in b) x (mean_in b x)
  pub pips : IsFraction (49 * mean_in b x) (6 * whole_in b)
      (long_number_of told.exact.numerator) (long_number_of told.exact.denominator)
  pub rounded : IsThousandths (long_number_of told.exact.numerator)
      (long_number_of told.exact.denominator) told.thousandths

-- the effective pip count, rounded, less the pip count, in thousandths: or the pip count less it
pub record SaysWastage (b : Book) (x : Board) (told : Wastage) : Type 0 where
  pub above : told.is_below ≡ false
      → IsRoundedPipsIn b (mean_in b x) (1000 * pips x + told.thousandths)
  pub below : told.is_below ≡ true
      → IsRoundedPipsIn b (mean_in b x) (1000 * pips x - told.thousandths)
  pub within : told.is_below ≡ true → (0 < told.thousandths) × (told.thousandths ≤ 1000 * pips x)

-- the shares of each number of rolls where each play is the recorded one, and none beyond the most
pub record SaysShares (b : Book) (x : Board) (spread : Distribution) : Type 0 where
  pub shares : (k : ℕ) → k ≤ rolls_in b → slice_index (map long_number_of spread.shares) k
      ≡ count_over (rolls_in b) (follow_in b (rolls_in b) x) k
  pub recorded : (k : ℕ) → k ≤ rolls_in b →
      slice_index (map long_number_of spread.shares) k ≡ share_in b x k
  pub beyond : (k : ℕ) → rolls_in b < k → slice_index (map long_number_of spread.shares) k ≡ 0

-- the chance to be off within so many rolls
pub record SaysChance (b : Book) (x : Board) (rolls : ℕ) (told : Chance) : Type 0 where
  pub chance : long_number_of told.numerator ≡ chance_in b x rolls
  pub rounded : IsThousandths (long_number_of told.numerator) (whole_in b) told.thousandths

-- the first play of a throw from x to y
pub record SaysPlayTo (x : Board) (v : Throw) (y : Board) (play : RecordedPlay) : Type 0 where
  pub to : play.to.points ≡ y
  pub first : IsFirstPlay x v y (moves_in play)
  pub few : play.count ≤ 4
  pub zeros : AreZerosAfter play.count play.moves

-- the recorded play, which is legal
pub record SaysPlay (b : Book) (x : Board) (v : Throw) (play : RecordedPlay) : Type 0 where
  pub recorded : play.to.points ≡ recorded_in b x v
  pub legal : Legal x v play.to.points
  pub first : SaysPlayTo x v play.to.points play

-- what a play from x to y costs, which is its least mean less the least of all
pub record SaysLoss (b : Book) (x : Board) (v : Throw) (y : Board) (loss : LongFraction) : Type 0
  where
    pub recorded : IsFraction (loss_in b x v y) (whole_in b)
        (long_number_of loss.numerator) (long_number_of loss.denominator)
    pub lost : IsLossIn (rolls_in b) x v y (loss_in b x v y)

-- each item of a list says so of its position: that whose rank is its place in the list, from the
-- rank of the first on
abbrev pub SaysByRank : {T : Type 0} → ℕ → List T → (Board → T → Type 0) → Type 0
SaysByRank first items Says =
    (x : Board) (i : ℕ) (d : _) → IsPosition x → rank x ≡ first + i → i < length items
    → Says x (slice_index_or items i d)
