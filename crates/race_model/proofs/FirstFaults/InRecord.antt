-- The first fault of a record, which is the file's where the records of lower rank have none.
use Rattle.std.proofs.Common.{◌≡◌, ⊎_elim, ℕ, ◌+◌, ◌*◌, ◌<◌, ◌≤◌, sym, subst, ◌∙◌, arith}
use Rattle.std.proofs.lemmas.Bool.{cases_lt}
use Rattle.race_model.specs.Prelude.{count_to, Book, Test, play_test, least_test, mean_test, spread_test, rank_of}
use Rattle.race_model.specs.Prelude.{place_of, AsksIn, IsFirstFailing, IsFirstInRecord}

-- what is asked is asked of a rank that has a record
pub asked_rank : (b : Book) (u : Test) → AsksIn b u → rank_of u < count_to b.bound
asked_rank b (play_test r roll) asks = asks.0
asked_rank b (least_test r roll) asks = asks.0
asked_rank b (mean_test r) asks = asks
asked_rank b (spread_test r k) asks = asks.0

module _ (b : Book) (holds : Test → Type 0) (r : ℕ) where
  -- the first fault of a record is the file's, where all that is asked of lower ranks holds
  pub first_of_file : (t : Test) → ((u : Test) → rank_of u < r → AsksIn b u → holds u) →
      IsFirstInRecord (AsksIn b) holds r t → IsFirstFailing (AsksIn b) holds t
  first_of_file t lower first = record {
    is_asked = first.is_asked;
    fails = first.fails;
    earlier = λ u asks before. ⊎_elim
        (λ less. lower u (omega (arith, first.of_rank)) asks)
        (λ here. first.earlier u (here.0 ∙ first.of_rank) here.1 asks)
        before;
  }

  -- the plays of the first n rolls hold
  abbrev pub PlaysHold : ℕ → Type 0
  PlaysHold n = (i : ℕ) → i < n → holds (play_test r i) × holds (least_test r i)

  -- where the plays of n rolls hold, so does all that is asked before the play of roll n
  pub before_play : (n : ℕ) → n ≤ 21 → PlaysHold n → (u : Test) → rank_of u ≡ r →
      place_of u < 2 * n → AsksIn b u → holds u
  before_play n most held (play_test q i) same less asks =
      subst (λ q. holds (play_test q i)) (sym same) (held i (omega arith)).0
  before_play n most held (least_test q i) same less asks =
      subst (λ q. holds (least_test q i)) (sym same) (held i (omega arith)).1
  before_play n most held (mean_test q) same less asks = absurd (omega arith)
  before_play n most held (spread_test q k) same less asks = absurd (omega arith)

  -- and all that is asked before whether the play of roll n is the least, where it is a result
  pub before_least : (n : ℕ) → n < 21 → PlaysHold n → holds (play_test r n) → (u : Test) →
      rank_of u ≡ r → place_of u < 2 * n + 1 → AsksIn b u → holds u
  before_least n under held here (play_test q i) same less asks =
      subst (λ q. holds (play_test q i)) (sym same)
      (⊎_elim
      (λ below. (held i below).0)
      (λ more.
      let is : i ≡ n = omega arith in
      subst (λ i. holds (play_test r i)) (sym is) here)
      (cases_lt i n))
  before_least n under held here (least_test q i) same less asks =
      before_play n (omega arith) held (least_test q i) same (omega arith) asks
  before_least n under held here (mean_test q) same less asks = absurd (omega arith)
  before_least n under held here (spread_test q k) same less asks = absurd (omega arith)

  -- where all plays hold and the mean does, all does that is asked before the share of k rolls
  -- whose shares of fewer rolls hold
  pub before_share : (k : ℕ) → PlaysHold 21 → holds (mean_test r) →
      ((j : ℕ) → j < k → holds (spread_test r j)) → (u : Test) → rank_of u ≡ r →
      place_of u < 43 + k → AsksIn b u → holds u
  before_share k held mean shares (play_test q i) same less asks =
      subst (λ q. holds (play_test q i)) (sym same) (held i asks.1).0
  before_share k held mean shares (least_test q i) same less asks =
      subst (λ q. holds (least_test q i)) (sym same) (held i asks.1).1
  before_share k held mean shares (mean_test q) same less asks =
      subst (λ q. holds (mean_test q)) (sym same) mean
  before_share k held mean shares (spread_test q j) same less asks =
      subst (λ q. holds (spread_test q j)) (sym same) (shares j (omega arith))
