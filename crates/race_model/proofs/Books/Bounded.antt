-- How large the numbers of a book can be where its equations hold, and what they are multiples of:
-- a mean is at most so many rolls as the game can take, and a count at most all sequences.
use Rattle.std.proofs.Common.{◌≡◌, ⊎_elim, ℕ, zero, suc, ◌+◌, ◌*◌, ◌^◌, ◌<◌, ◌≤◌, sym, ap, ◌∙◌, arith}
use Rattle.std.proofs.lemmas.Nat.{pow-add}
use Rattle.std.proofs.Math.Nat.{mul-le-mul_left, pow-suc}
use Rattle.race_model.specs.Prelude.{Board, IsPosition, IsFinished, Throw, IsRoll, weight, all_rolls, weighted, rank}
use Rattle.race_model.specs.Prelude.{EndsIn, Book, mean_in, play_in, recorded_in, share_in, IsPlayedIn, HasMeanOver}
use Rattle.race_model.specs.Prelude.{HasMeanIn, IsLocalOver, HasCountIn}
use Rattle.race_model.proofs.Numbers.Sums.{sum_by-equal, sum_by-at_most, sum_by-times, sum_by-zero}
use Rattle.race_model.proofs.Dice.RollSums.{sum_by-weight}
use Rattle.race_model.proofs.Dice.Throws.{played_by_rolls}
use Rattle.race_model.proofs.Plays.Results.{legal_position, legal_fewer_pips, finished_or_not}
use Rattle.race_model.proofs.Ranks.RankOrder.{rank-fewer}

-- a weighted sum of numbers that are no greater than one
pub weighted-at_most : (g : Throw → ℕ) (m : ℕ) → ((v : Throw) → g v ≤ m) → weighted g ≤ 36 * m
weighted-at_most g m small =
    let each = sum_by-at_most (λ v. weight v * g v) (λ v. m * weight v) all_rolls
    (λ v. at_most (weight v) (g v) (small v)) in
    let all = sum_by-times m weight all_rolls in
    let weights = ap (λ n. m * n) sum_by-weight in
    omega (arith, each, all, weights)
  where
    at_most : (w n : ℕ) → n ≤ m → w * n ≤ m * w
    at_most w n le = omega (arith, mul-le-mul_left w le)

-- a weighted sum of numbers that are none is none
pub weighted-none : (g : Throw → ℕ) → ((v : Throw) → g v ≡ 0) → weighted g ≡ 0
weighted-none g none =
    sum_by-zero (λ v. weight v * g v) all_rolls (λ v. ap (λ n. weight v * n) (none v) ∙ omega arith)

-- a weighted sum of multiples of one number is a multiple of it
pub weighted-multiples : (g h : Throw → ℕ) (m : ℕ) → ((v : Throw) → g v ≡ h v * m) →
    weighted g ≡ weighted h * m
weighted-multiples g h m each =
    sum_by-equal (λ v. weight v * g v) (λ v. m * (weight v * h v)) all_rolls
    (λ v. ap (λ n. weight v * n) (each v) ∙ omega arith)
    ∙ sum_by-times m (λ v. weight v * h v) all_rolls
    ∙ omega arith

-- what follows for what is said of a position that isn't finished
module _ (f : Book) (x : Board) (at : IsPosition x) (unfinished : ¬ IsFinished x)
    (rolls : (v : Throw) → IsRoll v → IsPlayedIn f x v) where
  played : (v : Throw) → IsPlayedIn f x v
  played = played_by_rolls f x rolls

  after : (v : Throw) → IsPosition (recorded_in f x v)
  after v = legal_position x v (recorded_in f x v) at (played v).legal

  lower : (v : Throw) → rank (recorded_in f x v) < rank x
  lower v =
      rank-fewer (recorded_in f x v) x (after v) at
      (legal_fewer_pips x v (recorded_in f x v) unfinished (played v).legal)

  after_ends : (n : ℕ) → EndsIn (suc n) x → (v : Throw) → EndsIn n (recorded_in f x v)
  after_ends n ends v = ends unfinished v (recorded_in f x v) (played v).legal

-- the play and mean equations of a position, over so many sequences
pub record HasPlayedMean (over : ℕ) (f : Book) (x : Board) : Type 0 where
  pub played : (v : Throw) → IsRoll v → IsPlayedIn f x v
  pub mean_is : HasMeanOver over f x

-- a mean is at most as many rolls as the game can take
pub mean-in_rolls : (over : ℕ) (f : Book) (n : ℕ) (x : Board) → EndsIn n x → IsPosition x →
    ((z : Board) → IsPosition z → rank z ≤ rank x → HasPlayedMean over f z) →
    mean_in f x ≤ n * over
mean-in_rolls over f zero x ends at local =
    omega (arith, (local x at (omega arith)).mean_is.at_end ends)
mean-in_rolls over f (suc n) x ends at local = ⊎_elim
    (λ none. omega (arith, (local x at (omega arith)).mean_is.at_end none))
    (λ unfinished.
    let rolls = (local x at (omega arith)).played in
    let branches = weighted-at_most (λ v. f.means (play_in f x v)) (n * over) (λ v.
    let same = ap f.means (played f x at unfinished rolls v).ranked in
    let low = lower f x at unfinished rolls v in
    let small = mean-in_rolls over f n (recorded_in f x v)
    (after_ends f x at unfinished rolls n ends v) (after f x at unfinished rolls v)
    (λ z is le. local z is (omega (arith, low))) in
    omega (arith, same, small)) in
    omega (arith, (local x at (omega arith)).mean_is.before unfinished, branches))
    (finished_or_not x)

-- a share is at most the whole
pub share-in_whole : (over : ℕ) (f : Book) (k : ℕ) (x : Board) → k ≤ suc f.further → IsPosition x →
    ((z : Board) → IsPosition z → rank z ≤ rank x → IsLocalOver over f z) → share_in f x k ≤ over
share-in_whole over f zero x few at local = ⊎_elim
    (λ none. omega (arith, ((local x at (omega arith)).shares 0 few).0 none))
    (λ unfinished. omega (arith, ((local x at (omega arith)).shares 0 few).1 unfinished))
    (finished_or_not x)
share-in_whole over f (suc k) x few at local = ⊎_elim
    (λ none. omega (arith, ((local x at (omega arith)).shares (suc k) few).0 none))
    (λ unfinished.
    let rolls = (local x at (omega arith)).means.played in
    let branches = weighted-at_most (λ v. f.shares (play_in f x v) k) over (λ v.
    let same = ap (λ r. f.shares r k) (played f x at unfinished rolls v).ranked in
    let low = lower f x at unfinished rolls v in
    let small = share-in_whole over f k (recorded_in f x v) (omega arith)
    (after f x at unfinished rolls v) (λ z is le. local z is (omega (arith, low))) in
    omega (arith, same, small)) in
    omega (arith, ((local x at (omega arith)).shares (suc k) few).1 unfinished, branches))
    (finished_or_not x)

-- the equations of a position, but for that its plays are best, with counts in place of shares
pub record Meets (f : Book) (counts : ℕ → ℕ → ℕ) (x : Board) : Type 0 where
  pub played : (v : Throw) → IsRoll v → IsPlayedIn f x v
  pub mean_is : HasMeanIn f x
  pub counts_are : (k : ℕ) → k ≤ suc f.further → HasCountIn f counts x k

-- a position and each of no higher rank
abbrev pub MeetsTo : Book → (ℕ → ℕ → ℕ) → Board → Type 0
MeetsTo f counts x = (z : Board) → IsPosition z → rank z ≤ rank x → Meets f counts z

-- what a position leads to meets the equations, too
module _ (f : Book) (counts : ℕ → ℕ → ℕ) (x : Board) (at : IsPosition x)
    (unfinished : ¬ IsFinished x) (meets : MeetsTo f counts x) where
  rolls : (v : Throw) → IsRoll v → IsPlayedIn f x v
  rolls = (meets x at (omega arith)).played

  ranked_to : (v : Throw) → rank (recorded_in f x v) ≡ play_in f x v
  ranked_to v = (played f x at unfinished rolls v).ranked

  is_to : (v : Throw) → IsPosition (recorded_in f x v)
  is_to = after f x at unfinished rolls

  ends_to : (n : ℕ) → EndsIn (suc n) x → (v : Throw) → EndsIn n (recorded_in f x v)
  ends_to = after_ends f x at unfinished rolls

  meets_to : (v : Throw) → MeetsTo f counts (recorded_in f x v)
  meets_to v z is le =
      let low = lower f x at unfinished rolls v in
      meets z is (omega (arith, low))

module _ (f : Book) (counts : ℕ → ℕ → ℕ) where
  -- its mean
  pub mean-at_most : (n : ℕ) (x : Board) → EndsIn n x → IsPosition x → MeetsTo f counts x →
      mean_in f x ≤ n * 36 ^ suc f.further
  mean-at_most n x ends at meets =
      mean-in_rolls (36 ^ suc f.further) f n x ends at
      (λ z is le.
      record { played = (meets z is le).played; mean_is = (meets z is le).mean_is })

  -- the mean is a multiple of the sequences of all further throws
  pub mean-multiple : (n d : ℕ) (x : Board) → n + d ≡ suc f.further → EndsIn n x → IsPosition x →
      MeetsTo f counts x → (q : ℕ) × (mean_in f x ≡ q * 36 ^ d)
  mean-multiple zero d x all ends at meets =
      (0, omega (arith, (meets x at (omega arith)).mean_is.at_end ends))
  mean-multiple (suc n) d x all ends at meets = ⊎_elim
      (λ none. (0, omega (arith, (meets x at (omega arith)).mean_is.at_end none)))
      (λ unfinished. before unfinished (λ v.
      mean-multiple n (suc d) (recorded_in f x v) (omega (arith, all))
      (ends_to f counts x at unfinished meets n ends v)
      (is_to f counts x at unfinished meets v) (meets_to f counts x at unfinished meets v)))
      (finished_or_not x)
    where
      before : (unfinished : ¬ IsFinished x) →
          ((v : Throw) → (q : ℕ) × (mean_in f (recorded_in f x v) ≡ q * 36 ^ suc d)) →
          (q : ℕ) × (mean_in f x ≡ q * 36 ^ d)
      before unfinished each = (36 ^ suc n + weighted (λ v. (each v).0), is)
        where
          sum_is : weighted (λ v. f.means (play_in f x v)) ≡ weighted (λ v. (each v).0) * 36 ^ suc d
          sum_is = weighted-multiples (λ v. f.means (play_in f x v)) (λ v. (each v).0) (36 ^ suc d)
              (λ v.
              ap f.means (sym (ranked_to f counts x at unfinished meets v)) ∙ (each v).1)

          is : mean_in f x ≡ (36 ^ suc n + weighted (λ v. (each v).0)) * 36 ^ d
          is =
              let here = (meets x at (omega arith)).mean_is.before unfinished in
              let power = pow-suc 36 d in
              let whole = ap (λ k. 36 ^ k) (sym all) ∙ pow-add 36 (suc n) d in
              let sum = sum_is ∙ ap (λ k. weighted (λ v. (each v).0) * k) power in
              omega (arith, here, sum, whole)

  -- a count is at most all sequences of so many throws
  pub count-at_most : (k : ℕ) (x : Board) → k ≤ suc f.further → IsPosition x →
      MeetsTo f counts x → counts (rank x) k ≤ 36 ^ k
  count-at_most zero x few at meets = ⊎_elim
      (λ none. omega (arith, ((meets x at (omega arith)).counts_are 0 few).0 none))
      (λ unfinished. omega (arith, ((meets x at (omega arith)).counts_are 0 few).1 unfinished))
      (finished_or_not x)
  count-at_most (suc k) x few at meets = ⊎_elim
      (λ none. omega (arith, ((meets x at (omega arith)).counts_are (suc k) few).0 none))
      (λ unfinished.
      let branches = weighted-at_most (λ v. counts (play_in f x v) k) (36 ^ k) (λ v.
      let same = ap (λ r. counts r k) (ranked_to f counts x at unfinished meets v) in
      let small = count-at_most k (recorded_in f x v) (omega arith)
      (is_to f counts x at unfinished meets v) (meets_to f counts x at unfinished meets v) in
      omega (arith, same, small)) in
      omega (
        arith,
        ((meets x at (omega arith)).counts_are (suc k) few).1 unfinished,
        branches,
        pow-suc 36 k,
      ))
      (finished_or_not x)

  -- there is no count beyond as many throws as the game can take
  pub count-beyond : (n : ℕ) (x : Board) → EndsIn n x → IsPosition x → MeetsTo f counts x →
      (k : ℕ) → n < k → k ≤ suc f.further → counts (rank x) k ≡ 0
  count-beyond n x ends at meets zero beyond few = absurd (omega arith)
  count-beyond zero x ends at meets (suc k) beyond few =
      ((meets x at (omega arith)).counts_are (suc k) few).0 ends
  count-beyond (suc n) x ends at meets (suc k) beyond few = ⊎_elim
      (λ none. ((meets x at (omega arith)).counts_are (suc k) few).0 none)
      (λ unfinished.
      ((meets x at (omega arith)).counts_are (suc k) few).1 unfinished
      ∙ weighted-none (λ v. counts (play_in f x v) k) (λ v.
      ap (λ r. counts r k) (sym (ranked_to f counts x at unfinished meets v))
      ∙ count-beyond n (recorded_in f x v) (ends_to f counts x at unfinished meets n ends v)
      (is_to f counts x at unfinished meets v) (meets_to f counts x at unfinished meets v) k
      (omega arith) (omega arith)))
      (finished_or_not x)
