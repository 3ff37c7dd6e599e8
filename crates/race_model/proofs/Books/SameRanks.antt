-- The equations of a position are those of its rank and of lower ones: two books that say the same
-- of these meet the same.
use Rattle.std.proofs.Common.{◌≡◌, ⊎_elim, ℕ, zero, suc, ◌+◌, ◌*◌, ◌<◌, ◌≤◌, ap, sym, subst, ◌∙◌, arith}
use Rattle.race_model.specs.Prelude.{Board, IsPosition, Throw, IsRoll, all_rolls, weight, roll_index, weighted, Legal}
use Rattle.race_model.specs.Prelude.{rank, at_rank, Book, play_in, recorded_in, IsPlayedIn, IsBestIn, HasMeanOver}
use Rattle.race_model.specs.Prelude.{HasShareOver, IsLocalOver}
use Rattle.race_model.proofs.Numbers.Sums.{sum_by-equal}
use Rattle.race_model.proofs.Dice.Throws.{by_rolls}
use Rattle.race_model.proofs.Dice.RollSums.{roll_index-range}
use Rattle.race_model.proofs.Plays.Results.{finished_or_not, legal_finished}
use Rattle.race_model.proofs.Ranks.BestPlays.{legal_lower}

-- what a throw leads to has no higher rank
legal_no_higher : (x : Board) (v : Throw) (z : Board) → IsPosition x → Legal x v z → rank z ≤ rank x
legal_no_higher x v z at legal = ⊎_elim
    (λ none. omega (arith, ap rank (legal_finished x v z none legal)))
    (λ unfinished. omega (arith, legal_lower x v z at unfinished legal))
    (finished_or_not x)

module _ (over : ℕ) (f g : Book) (c : ℕ) (further : f.further ≡ g.further)
    (means : (r : ℕ) → r < c → f.means r ≡ g.means r)
    (plays : (r i : ℕ) → r < c → i < 21 → f.plays r i ≡ g.plays r i)
    (shares : (r k : ℕ) → r < c → k ≤ suc f.further → f.shares r k ≡ g.shares r k)
    (x : Board) (at : IsPosition x) (under : rank x < c) (here : IsLocalOver over f x) where
  play : (v : Throw) → play_in f x v ≡ play_in g x v
  play v = plays (rank x) (roll_index v) under (roll_index-range v)

  lower : (v : Throw) → play_in f x v < c
  lower =
      by_rolls (λ i v. f.plays (rank x) i < c) (λ i v less. less)
      (λ v is.
      let to = here.means.played v is in
      omega (arith, to.ranked, legal_no_higher x v (recorded_in f x v) at to.legal, under))

  mean : (v : Throw) → f.means (play_in f x v) ≡ g.means (play_in g x v)
  mean v = means (play_in f x v) (lower v) ∙ ap g.means (play v)

  weigh : (one other : Throw → ℕ) → ((v : Throw) → one v ≡ other v) →
      weighted one ≡ weighted other
  weigh one other each =
      sum_by-equal (λ v. weight v * one v) (λ v. weight v * other v) all_rolls
      (λ v. ap (λ n. weight v * n) (each v))

  played : (v : Throw) → IsRoll v → IsPlayedIn g x v
  played v is =
      let to = here.means.played v is in
      record {
        ranked = subst (λ r. rank (at_rank r) ≡ r) (play v) to.ranked;
        legal = subst (λ r. Legal x v (at_rank r)) (play v) to.legal;
      }

  best : (v : Throw) → IsRoll v → IsBestIn g x v
  best v is z legal =
      omega (
        arith,
        here.means.best v is z legal,
        mean v,
        means (rank z) (omega (arith, under, legal_no_higher x v z at legal)),
      )

  mean_is : HasMeanOver over g x
  mean_is = record {
    at_end = λ none. sym (means (rank x) under) ∙ here.means.mean_is.at_end none;
    before = λ unfinished.
        ap (λ n. 36 * n) (sym (means (rank x) under))
        ∙ here.means.mean_is.before unfinished
        ∙ ap (λ n. 36 * over + n)
        (weigh (λ v. f.means (play_in f x v)) (λ v. g.means (play_in g x v)) mean);
  }

  share : (k : ℕ) → k ≤ suc f.further → HasShareOver over g x k
  share zero le = (
    λ none. sym (shares (rank x) 0 under le) ∙ (here.shares 0 le).0 none,
    λ unfinished. sym (shares (rank x) 0 under le) ∙ (here.shares 0 le).1 unfinished,
  )
  share (suc k) le = (
    λ none. sym (shares (rank x) (suc k) under le) ∙ (here.shares (suc k) le).0 none,
    λ unfinished.
        ap (λ n. 36 * n) (sym (shares (rank x) (suc k) under le))
        ∙ (here.shares (suc k) le).1 unfinished
        ∙ weigh (λ v. f.shares (play_in f x v) k) (λ v. g.shares (play_in g x v) k)
        (λ v.
        shares (play_in f x v) k (lower v) (omega (arith, le))
        ∙ ap (λ r. g.shares r k) (play v)),
  )

  pub local-same : IsLocalOver over g x
  local-same = record {
    means = record { played = played; best = best; mean_is = mean_is };
    shares = λ k le. share k (subst (λ n. k ≤ suc n) (sym further) le);
  }
