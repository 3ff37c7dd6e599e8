-- A right book is right over more throws: the strategy that plays what it says is over within its
-- own throws, so that its rolls are a multiple, and the rolls of any other are no less than that
-- multiple, even where its games were cut off.
use Rattle.std.proofs.Common.{◌≡◌, ◌⊎◌, ⊎_elim, ℕ, zero, suc, ◌+◌, ◌*◌, ◌^◌, ◌<◌, ◌≤◌, cond, refl}
use Rattle.std.proofs.Common.{ap, sym, subst, ◌∙◌, arith, le_trans}
use Rattle.std.proofs.Math.Nat.{pow-succ', mul-le-mul_left}
use Rattle.std.proofs.lemmas.Bool.{le-leb, lt-leb}
use Rattle.race_model.specs.Prelude.{Board, IsPosition, pips, throws, Strategy, stop, turn, Fits, IsWithin, EndsIn}
use Rattle.race_model.specs.Prelude.{total_over, count_over, Book, mean_in, share_in, follow_in, IsRightIn, IsRightBook}
use Rattle.race_model.specs.Prelude.{IsLong, further_by}
use Rattle.race_model.proofs.Numbers.Sums.{sum_by-at_most, sum_by-times}
use Rattle.race_model.proofs.Strategies.Histories.{over-none, total_over-over, total_over-turn, count_over-beyond}
use Rattle.race_model.proofs.Strategies.Horizons.{ends_at_once}
use Rattle.race_model.proofs.Strategies.Totals.{total_over-stop}
use Rattle.race_model.proofs.Books.Endings.{follow_in-within}
use Rattle.race_model.proofs.Books.Kinds.{same_follow, follow_in-further, total_over-further, count_over-further}

-- over a throw more a strategy has no fewer than 36 times its rolls
total_over-no_less : (m : ℕ) (s : Strategy) → 36 * total_over m s ≤ total_over (suc m) s
total_over-no_less m stop = omega (arith, total_over-stop m)
total_over-no_less zero (turn to next) =
    let none = total_over-over 0 (turn to next) ∙ over-none (turn to next) (λ k. k) in
    omega (arith, none)
total_over-no_less (suc m) (turn to next) =
    let branches =
    sum_by-at_most (λ v. 36 * total_over m (next v)) (λ v. total_over (suc m) (next v)) throws
    (λ v. total_over-no_less m (next v)) in
    omega (
      arith,
      total_over-turn m to next,
      total_over-turn (suc m) to next,
      pow-succ' 36 (suc m),
      branches,
      sum_by-times 36 (λ v. total_over m (next v)) throws,
    )

-- over d throws more a strategy has no fewer rolls than the multiple by their sequences
total_over-at_least : (m d p : ℕ) (s : Strategy) → d + m ≡ p →
    36 ^ d * total_over m s ≤ total_over p s
total_over-at_least m zero p s e =
    let same : m ≡ p = omega (arith, e) in
    let equal = ap (λ k. total_over k s) same in
    omega (arith, equal)
total_over-at_least m (suc d) zero s e = absurd (omega (arith, e))
total_over-at_least m (suc d) (suc p) s e =
    let rest = total_over-at_least m d p s (omega (arith, e)) in
    let power = ap (λ k. k * total_over m s) (pow-succ' 36 d) in
    omega (arith, rest, total_over-no_less p s, power)

-- a right book, over d throws more
module _ (f : Book) (d : ℕ) (right : IsRightBook f) (x : Board) (at : IsPosition x)
    (low : pips x ≤ f.bound) where
  ours : IsRightIn f x
  ours = right x at low

  more : d + suc f.further ≡ suc (d + f.further)
  more = omega arith

  -- what it plays is the same strategy
  followed : follow_in (further_by d f) (suc (d + f.further)) x ≡ follow_in f (suc f.further) x
  followed =
      let one =
      same_follow f (further_by d f) f.bound (λ y is under. (right y is under).played)
      (λ y v is under. refl) (suc f.further) x at low in
      follow_in-further (further_by d f) (suc f.further) d (suc (d + f.further)) x more
      (subst (λ s. Fits s x) one ours.fits)
      ∙ sym one

  within : IsWithin (suc f.further) (follow_in f (suc f.further) x)
  within = follow_in-within f (suc f.further) x

  fits : Fits (follow_in (further_by d f) (suc (d + f.further)) x) x
  fits = subst (λ s. Fits s x) (sym followed) ours.fits

  -- its rolls are the multiple
  mean_is : total_over (suc (d + f.further))
      (follow_in (further_by d f) (suc (d + f.further)) x) ≡ 36 ^ d * mean_in f x
  mean_is =
      ap (total_over (suc (d + f.further))) followed
      ∙ total_over-further (suc f.further) (suc f.further) d (suc (d + f.further))
      (follow_in f (suc f.further) x) more within (omega arith)
      ∙ ap (λ t. 36 ^ d * t) ours.mean_is

  -- its sequences for each number of rolls are the multiple
  spread_is : (k : ℕ) → share_in (further_by d f) x k
      ≡ count_over (suc (d + f.further)) (follow_in (further_by d f) (suc (d + f.further)) x) k
  spread_is k = ⊎_elim
      (λ le.
      ap (λ b. cond b (36 ^ d * share_in f x k) 0) (le-leb k (suc f.further) le)
      ∙ ap (λ t. 36 ^ d * t) (ours.spread_is k le)
      ∙ sym (count_over-further (suc f.further) (suc f.further) d (suc (d + f.further)) k
      (follow_in f (suc f.further) x) more within (omega arith))
      ∙ sym same)
      (λ beyond.
      ap (λ b. cond b (36 ^ d * share_in f x k) 0) (lt-leb k (suc f.further) beyond)
      ∙ sym (count_over-beyond (suc (d + f.further)) (suc f.further) k
      (follow_in f (suc f.further) x) within beyond)
      ∙ sym same)
      (either k (suc f.further))
    where
      same : count_over (suc (d + f.further))
          (follow_in (further_by d f) (suc (d + f.further)) x) k
          ≡ count_over (suc (d + f.further)) (follow_in f (suc f.further) x) k
      same = ap (λ s. count_over (suc (d + f.further)) s k) followed

      either : (m n : ℕ) → (m ≤ n) ⊎ (n < m)
      either m n = grind arith

  further_right : IsRightIn (further_by d f) x
  further_right = record {
    played = λ v. record { ranked = (ours.played v).ranked; legal = (ours.played v).legal };
    fits = fits;
    mean_is = mean_is;
    least = record {
      reached = (follow_in (further_by d f) (suc (d + f.further)) x, fits, mean_is);
      least =
          λ s can. le_trans (mul-le-mul_left (36 ^ d) (ours.least.least s can))
          (total_over-at_least (suc f.further) d (suc (d + f.further)) s more);
    };
    spread_is = λ k _. spread_is k;
  }

pub right_further : (f : Book) (d : ℕ) → IsRightBook f → IsRightBook (further_by d f)
right_further = further_right

-- each game that is over within n rolls is over within one more
ends_more : (n : ℕ) (x : Board) → EndsIn n x → EndsIn (suc n) x
ends_more zero x none = ends_at_once 1 x none
ends_more (suc n) x ends = λ unfinished v y goes. ends_more n y (ends unfinished v y goes)

-- each game that is over within n rolls is over within d more
ends_further : (n d p : ℕ) (x : Board) → d + n ≡ p → EndsIn n x → EndsIn p x
ends_further n zero p x e ends =
    let same : n ≡ p = omega (arith, e) in subst (λ k. EndsIn k x) same ends
ends_further n (suc d) zero x e ends = absurd (omega (arith, e))
ends_further n (suc d) (suc p) x e ends =
    ends_more p x (ends_further n d p x (omega (arith, e)) ends)

-- so what was long enough is so over more throws
pub long_further : (f : Book) (d : ℕ) → IsLong f → IsLong (further_by d f)
long_further f d long x at low =
    ends_further (suc f.further) d (suc (d + f.further)) x (omega arith) (long x at low)
