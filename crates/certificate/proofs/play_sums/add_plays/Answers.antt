-- By the loop over the rolls, each of which leads to a record that was accepted.
use Rattle.std.proofs.Common.{◌≡◌, ◌⊎◌, ⊎_elim, ℕ, ◌+◌, ◌*◌, ◌<◌, ◌≤◌, List, [], map, get_or}
use Rattle.std.proofs.Common.{IsTrue, Some, refl, sym, ap, subst, ◌∙◌, arith, below_more}
use Rattle.std.proofs.lemmas.Bool.{cases_lt}
use Rattle.std.proofs.lemmas.List.{get_or-set_other, get_or-map, get_or_past, length-set, map-set, length-map}
use Rattle.std.proofs.lemmas.Grind.{get_or-set_at}
use Rattle.race_model.specs.Prelude.{all_rolls, roll_index, weight, record_at, mean_of, mean_at, spread_at}
use Rattle.race_model.proofs.Dice.RollSums.{roll_index-range}
use Rattle.race_model.proofs.Numbers.Sums.{sum_by-equal}
use Rattle.certificate.specs.PlaySums.{told_by, IsAccepted}
use Rattle.certificate.specs.RecordNumbers.{shares_of}
use Rattle.certificate.specs.declared.play_sums.AcceptedShares.{AcceptedShares}
use Rattle.certificate.proofs.PlaySums.{passes_or_not, told-then, lent-accepted, length-told_by}
use Rattle.certificate.proofs.RecordBytes.{mean-of_record, share-of_record, get_or-shares_of}
use Rattle.certificate.proofs.play_sums.add_plays.Given.{Over}
use Rattle.certificate.proofs.play_sums.add_plays.Goals.{After-loop-index}
use Rattle.certificate.proofs.play_sums.add_plays.Goals as goal

split : (j n : ℕ) → j < n + 1 → (j < n) ⊎ (j ≡ n)
split j n lt = grind arith

-- the shares of a record, by what it stores
abbrev of : AcceptedShares → List ℕ
of one = told_by one.stored

pub accepted-requires : goal.accepted-requires
accepted-requires g c =
    lent-accepted (g.T.Table.tells c.args.table.now) (IsTrue c.args.is_known)
    (get_or c.args.plays.now 0 0) c.lend-first_view.result c.requires.known
    (λ file told. c.requires.accepted file told 0 (omega arith)) c.lend-first_view.ensures

pub accepted-requires-in-loop-index : goal.accepted-requires-in-loop-index
accepted-requires-in-loop-index g c =
    lent-accepted (g.T.Table.tells c.args.table.now) (IsTrue c.args.is_known)
    (get_or c.args.plays.now c.loop-index.index 0) c.lend-view.result c.requires.known
    (λ file told. c.requires.accepted file told c.loop-index.index c.loop-index-test.true)
    c.lend-view.ensures

-- where the bytes are told, the record is as an accepted one
pub returns-in_default-clause-some : goal.returns-in_default-clause-some
returns-in_default-clause-some g c file told =
    (c.in_default.ensures {u = tt}).some.1
    (subst IsAccepted (sym (c.lend-first_view.ensures file told))
    (c.requires.accepted file told 0 (omega arith)))

pub returns-in_default-accepted-clause-some : goal.returns-in_default-accepted-clause-some
returns-in_default-accepted-clause-some g c file told =
    (c.in_default-accepted.ensures {u = tt}).some.1
    (subst IsAccepted (sym (c.lend-view.ensures file told))
    (c.requires.accepted file told c.loop-index.index c.loop-index-test.true))

-- what holds of the first number holds below one
first-only : (P : ℕ → Type 0) → P 0 → (j : ℕ) → j < 1 → P j
first-only P here = below_more P 0 (λ j lt. absurd (omega (arith, lt))) here

pub loop-index-init : goal.loop-index-init
loop-index-init g c = record {
  means_len = refl;
  shares_len = refl;
  means_are = λ file told. first-only _
      ((c.in-Some.ensures {u = tt}).mean
      ∙ (ap mean_of (c.lend-first_view.ensures file told)
      ∙ mean-of_record file (get_or c.args.plays.now 0 0)));
  shares_are = λ file told. first-only _
      ((c.in-Some.ensures {u = tt}).shares ∙ ap shares_of (c.lend-first_view.ensures file told));
}

pub loop-index-preserved : goal.loop-index-preserved
loop-index-preserved g c =
    let i = c.loop-index.index in
    let plays = c.args.plays.now in
    let kept = c.loop-index.invariant in
    let next = c.in-Some-accepted in
    let shares = map of c.loop-index.shares in
    let set = map-set of c.loop-index.shares i next.found.shares in
    let long = length-map c.loop-index.shares of in
    record {
      means_len = length-set c.loop-index.means i next.found.mean ∙ kept.means_len;
      shares_len = length-set c.loop-index.shares i next.found.shares ∙ kept.shares_len;
      means_are = λ file told j lt.
          let mean : next.found.mean ≡ mean_at file (get_or plays i 0) =
          (next.ensures {u = tt}).mean
          ∙ (ap mean_of (c.lend-view.ensures file told) ∙ mean-of_record file (get_or plays i 0)) in
          ⊎_elim
          (λ less.
          get_or-set_other c.loop-index.means i j next.found.mean 0 (λ e. absurd (omega arith))
          ∙ kept.means_are file told j less)
          (λ same.
          get_or-set_at c.loop-index.means i j next.found.mean 0 same
          (omega (arith, kept.means_len, c.loop-index-test.true))
          ∙ (mean ∙ ap (λ n. mean_at file (get_or plays n 0)) (sym same)))
          (split j i lt);
      shares_are = λ file told j lt.
          let own : of next.found.shares ≡ shares_of (record_at file (get_or plays i 0)) =
          (next.ensures {u = tt}).shares ∙ ap shares_of (c.lend-view.ensures file told) in
          ap (λ (xs : List (List ℕ)). get_or xs j []) set ∙ ⊎_elim
          (λ less.
          get_or-set_other shares i j (of next.found.shares) [] (λ e. absurd (omega arith))
          ∙ kept.shares_are file told j less)
          (λ same.
          get_or-set_at shares i j (of next.found.shares) [] same
          (omega (arith, kept.shares_len, long, c.loop-index-test.true))
          ∙ (own ∙ ap (λ n. shares_of (record_at file (get_or plays n 0))) (sym same)))
          (split j i lt);
    }

-- the shares after all rolls
module _ (g : Over) (c : After-loop-index g) (all : ¬ c.loop-index.index < 21) where
  -- those that are told
  told-share : (file : List ℕ) → g.T.Table.tells c.args.table.now ≡ Some file → (i k : ℕ)
      → i < 21 → k < 23
      → get_or (get_or (map of c.loop-index.shares) i []) k 0
      ≡ spread_at file (get_or c.args.plays.now i 0) k
  told-share file told i k inside few =
      ap (λ (xs : List ℕ). get_or xs k 0)
      (c.loop-index.invariant.shares_are file told i (omega (arith, inside, all)))
      ∙ (get_or-shares_of (record_at file (get_or c.args.plays.now i 0)) k few
      ∙ share-of_record file (get_or c.args.plays.now i 0) k)

  -- there is none of 23 rolls or more
  past : (i k : ℕ) → i < 21 → 23 ≤ k
      → get_or (get_or (map of c.loop-index.shares) i []) k 0 ≡ 0
  past i k inside many =
      let one = get_or c.loop-index.shares i c.in-Some.found.shares in
      ap (λ (xs : List ℕ). get_or xs k 0)
      (get_or-map of c.loop-index.shares i c.in-Some.found.shares []
      (omega (arith, inside, c.loop-index.invariant.shares_len)))
      ∙ get_or_past (of one) k 0 (omega (arith, many, length-told_by one.stored))

  -- nor of fewer than the first, or of as many as the last
  before : (i k : ℕ) → i < 21 → k < c.args.first
      → get_or (get_or (map of c.loop-index.shares) i []) k 0 ≡ 0
  before i k inside less = ⊎_elim
      (λ known.
      told-then (g.T.Table.tells c.args.table.now) _ (c.requires.known known)
      (λ file told.
      told-share file told i k inside (omega (arith, less, c.requires.order, c.requires.few))
      ∙ c.requires.before file told i k inside less))
      (λ unknown. absurd (omega (arith, less, (c.requires.unknown unknown).0)))
      (passes_or_not c.args.is_known)

  beyond : (i k : ℕ) → i < 21 → c.args.rolls ≤ k
      → get_or (get_or (map of c.loop-index.shares) i []) k 0 ≡ 0
  beyond i k inside more = ⊎_elim
      (λ few. ⊎_elim
      (λ known.
      told-then (g.T.Table.tells c.args.table.now) _ (c.requires.known known)
      (λ file told.
      told-share file told i k inside few ∙ c.requires.beyond file told i k inside more few))
      (λ unknown. absurd (omega (arith, more, few, (c.requires.unknown unknown).1)))
      (passes_or_not c.args.is_known))
      (past i k inside)
      (cases_lt k 23)

pub add_up-requires : goal.add_up-requires
add_up-requires g c =
    let here = (goal.at.add_up-requires g c).After-loop-index in
    let all = λ (lt : c.loop-index.index < 21).
    absurd (omega (arith, lt, c.loop-index-test.false)) in (
      omega arith,
      (
        c.requires.order,
        (c.requires.few, (before g here all, beyond g here all)),
      ),
    )

pub returns-clause-sums : goal.returns-clause-sums
returns-clause-sums g c file told _ =
    let here = (goal.at.returns-clause-sums g c).After-loop-index in
    let all = λ (lt : c.loop-index.index < 21).
    absurd (omega (arith, lt, c.loop-index-test.false)) in
    let plays = c.args.plays.now in
    record {
      means =
          c.add_up.ensures.mean
          ∙ sum_by-equal (λ v. weight v * get_or c.loop-index.means (roll_index v) 0)
          (λ v. weight v * mean_at file (get_or plays (roll_index v) 0)) all_rolls
          (λ v.
          ap (λ n. weight v * n)
          (c.loop-index.invariant.means_are file told (roll_index v)
          (omega (arith, roll_index-range v, c.loop-index-test.false))));
      each = λ k few.
          c.add_up.ensures.shares k few
          ∙ sum_by-equal
          (λ v. weight v * get_or (get_or (map of c.loop-index.shares) (roll_index v) []) k 0)
          (λ v. weight v * spread_at file (get_or plays (roll_index v) 0) k) all_rolls
          (λ v.
          ap (λ n. weight v * n)
          (told-share g here all file told (roll_index v) k (roll_index-range v) few));
    }
