-- Two right books of which one counts over some throws more: within the bounds of both its means
-- are those of the other times the sequences of these throws, and with the same plays so are its
-- shares.
use Rattle.std.proofs.Common.{◌≡◌, ℕ, zero, suc, ◌+◌, ◌*◌, ◌^◌, ◌<◌, ◌≤◌, ◌==◌, if◌then◌else◌, refl}
use Rattle.std.proofs.Common.{ap, ap₂, sym, subst, ◌∙◌, arith, le_trans}
use Rattle.std.proofs.Math.Nat.{pow-succ', mul-le-mul_left}
use mathlib.Core.Path.{fun_ext}
use Rattle.race_model.specs.Prelude.{Board, IsPosition, checkers, pips, IsBestPlay, Throw, IsRoll, Legal, rank, at_rank}
use Rattle.race_model.specs.Prelude.{Strategy, stop, turn, Fits, IsWithin, total_over, count_over, Book, mean_in}
use Rattle.race_model.specs.Prelude.{play_in, recorded_in, share_in, IsPlayedIn, IsLong, follow_in, IsRightIn}
use Rattle.race_model.specs.Prelude.{IsRightBook, HasSamePlays}
use Rattle.race_model.proofs.Dice.Throws.{by_rolls}
use Rattle.race_model.proofs.Plays.Results.{legal_position, legal_pips}
use Rattle.race_model.proofs.Ranks.BestPlays.{best-times, best-one}
use Rattle.race_model.proofs.Strategies.Histories.{fits_within, within_up, count_over-beyond}
use Rattle.race_model.proofs.Strategies.Histories.{total_over-more, count_over-more}
use Rattle.race_model.proofs.Books.FromRight.{follow_in-more}

-- over d throws more a strategy of at most n turns has a multiple of its rolls
pub total_over-further : (n m d p : ℕ) (s : Strategy) → d + m ≡ p → IsWithin n s → n ≤ m →
    total_over p s ≡ 36 ^ d * total_over m s
total_over-further n m zero p s e within le =
    let same : p ≡ m = omega (arith, e) in
    ap (λ k. total_over k s) same ∙ omega arith
total_over-further n m (suc d) zero s e within le = absurd (omega (arith, e))
total_over-further n m (suc d) (suc p) s e within le =
    let rest = total_over-further n m d p s (omega (arith, e)) within le in
    let here = total_over-more p s (within_up n p s (omega (arith, e, le)) within) in
    let power = pow-succ' 36 d in
    here ∙ ap (λ k. 36 * k) rest ∙ omega (arith, ap (λ k. k * total_over m s) power)

-- over d throws more its sequences for each number of rolls are a multiple
pub count_over-further : (n m d p k : ℕ) (s : Strategy) → d + m ≡ p → IsWithin n s → n ≤ m →
    count_over p s k ≡ 36 ^ d * count_over m s k
count_over-further n m zero p k s e within le =
    let same : p ≡ m = omega (arith, e) in
    ap (λ j. count_over j s k) same ∙ omega arith
count_over-further n m (suc d) zero k s e within le = absurd (omega (arith, e))
count_over-further n m (suc d) (suc p) k s e within le =
    let rest = count_over-further n m d p k s (omega (arith, e)) within le in
    let here = count_over-more p s k (within_up n p s (omega (arith, e, le)) within) in
    let power = pow-succ' 36 d in
    here ∙ ap (λ c. 36 * c) rest ∙ omega (arith, ap (λ c. c * count_over m s k) power)

-- a strategy that plays what a book says, and fits, is the same with d turns more
pub follow_in-further : (f : Book) (n d p : ℕ) (x : Board) → d + n ≡ p → Fits (follow_in f n x) x →
    follow_in f p x ≡ follow_in f n x
follow_in-further f n zero p x e fits =
    let same : p ≡ n = omega (arith, e) in ap (λ k. follow_in f k x) same
follow_in-further f n (suc d) zero x e fits = absurd (omega (arith, e))
follow_in-further f n (suc d) (suc p) x e fits =
    let rest = follow_in-further f n d p x (omega (arith, e)) fits in
    follow_in-more f p x (subst (λ s. Fits s x) (sym rest) fits) ∙ rest

-- where two books say the same plays, what they say is the same strategy
pub same_follow : (f g : Book) (bound : ℕ) →
    ((x : Board) → IsPosition x → pips x ≤ bound → (v : Throw) → IsPlayedIn f x v) →
    ((x : Board) (v : Throw) → IsPosition x → pips x ≤ bound → play_in f x v ≡ play_in g x v) →
    (n : ℕ) (x : Board) → IsPosition x → pips x ≤ bound → follow_in f n x ≡ follow_in g n x
unfolding follow_in
same_follow f g bound played same zero x at low = refl
same_follow f g bound played same (suc n) x at low =
    ap₂ (λ to next. if checkers x == 0 then stop else turn to next)
    (fun_ext (λ v. ap at_rank (same x v at low)))
    (fun_ext (λ v.
    same_follow f g bound played same n (recorded_in f x v)
    (legal_position x v (recorded_in f x v) at (played x at low v).legal)
    (le_trans (legal_pips x v (recorded_in f x v) (played x at low v).legal) low)
    ∙ ap (λ r. follow_in g n (at_rank r)) (same x v at low)))

-- the plays that a book says are the best ones
abbrev pub HasBestPlays : Book → Type 0
HasBestPlays f = (x : Board) → IsPosition x → pips x ≤ f.bound → (v : Throw) → IsRoll v →
    IsBestPlay f.means x v (play_in f x v)

-- those of two books are the same where the means of one are multiples of the other's
pub same_best : (f g : Book) (c : ℕ) → 0 < c → ((x : Board) → IsPosition x → pips x ≤ f.bound →
    pips x ≤ g.bound → mean_in g x ≡ c * mean_in f x) →
    HasBestPlays f → HasBestPlays g → HasSamePlays f g
same_best f g c some times best_f best_g x v at low other =
    by_rolls (λ i u. f.plays (rank x) i ≡ g.plays (rank x) i) (λ i u e. e)
    (λ u is.
    best-one g.means x u (play_in f x u) (play_in g x u)
    (best-times f.means g.means c (Legal x u) (play_in f x u) some
    (λ z legal.
    times z (legal_position x u z at legal) (le_trans (legal_pips x u z legal) low)
    (le_trans (legal_pips x u z legal) other)) (best_f x at low u is))
    (best_g x at other u is))
    v

-- a position within the bounds of two right books
module _ (f g : Book) (right_f : IsRightBook f) (right_g : IsRightBook g) (long : IsLong f) (d : ℕ)
    (more : d + suc f.further ≡ suc g.further) (x : Board) (at : IsPosition x)
    (low : pips x ≤ f.bound) (other : pips x ≤ g.bound) where
  ours : IsRightIn f x
  ours = right_f x at low

  theirs : IsRightIn g x
  theirs = right_g x at other

  -- its games have no more turns than the first counts over
  within : (s : Strategy) → Fits s x → IsWithin (suc f.further) s
  within s fits = fits_within (suc f.further) x s (long x at low) fits

  -- so the rolls of a strategy are a multiple
  further_total : (s : Strategy) → Fits s x →
      total_over (suc g.further) s ≡ 36 ^ d * total_over (suc f.further) s
  further_total s fits =
      total_over-further (suc f.further) (suc f.further) d (suc g.further) s more (within s fits)
      (omega arith)

  -- the least of the rolls, which is the mean, is a multiple
  pub further_mean : mean_in g x ≡ 36 ^ d * mean_in f x
  further_mean =
      let one = ours.least.reached in
      let two = theirs.least.reached in
      let below = theirs.least.least one.0 one.1 in
      let above = mul-le-mul_left (36 ^ d) (ours.least.least two.0 two.1) in
      let first = further_total one.0 one.1 ∙ ap (λ t. 36 ^ d * t) one.2 in
      let second = sym (further_total two.0 two.1) ∙ two.2 in
      omega arith

  -- with the same plays
  module _ (same : HasSamePlays f g) where
    -- what the first book plays
    plan : Strategy
    plan = follow_in f (suc f.further) x

    -- the other plays, too
    followed : follow_in g (suc g.further) x ≡ plan
    unfolding plan
    followed =
        let one =
        same_follow f g (pips x) (λ y is under. (right_f y is (le_trans under low)).played)
        (λ y v is under. same y v is (le_trans under low) (le_trans under other))
        (suc f.further) x at (omega arith) in
        follow_in-further g (suc f.further) d (suc g.further) x more
        (subst (λ s. Fits s x) one ours.fits)
        ∙ sym one

    -- so the shares are multiples
    pub further_share : (k : ℕ) → k ≤ suc f.further → share_in g x k ≡ 36 ^ d * share_in f x k
    unfolding plan
    further_share k le =
        theirs.spread_is k (omega (arith, more))
        ∙ ap (λ s. count_over (suc g.further) s k) followed
        ∙ count_over-further (suc f.further) (suc f.further) d (suc g.further) k plan more
        (within plan ours.fits) (omega arith)
        ∙ ap (λ t. 36 ^ d * t) (sym (ours.spread_is k le))

    -- beyond the shares of the first book there is none
    pub no_further_share : (k : ℕ) → suc f.further < k → k ≤ suc g.further → share_in g x k ≡ 0
    unfolding plan
    no_further_share k beyond le =
        theirs.spread_is k le
        ∙ ap (λ s. count_over (suc g.further) s k) followed
        ∙ count_over-beyond (suc g.further) (suc f.further) k plan (within plan ours.fits) beyond
