use Rattle.std.proofs.Common.{◌≡◌, ◌⊎◌, ⊎_elim, ℕ, ◌+◌, ◌*◌, ◌<◌, List, [], map, get_or, sym, ap, ◌∙◌, arith}
use Rattle.std.proofs.lemmas.List.{get_or-set_other, length-set, map-set, length-map}
use Rattle.std.proofs.lemmas.Grind.{get_or-set_at}
use Rattle.race_model.specs.Prelude.{all_rolls, roll_index, weight}
use Rattle.race_model.proofs.Dice.RollSums.{roll_index-range}
use Rattle.race_model.proofs.Numbers.Sums.{sum_by-equal}
use Rattle.retrograde.specs.AllRecords.{mean_of_rank, shares_of_rank}
use Rattle.retrograde.proofs.Existence.{all-records}
use Rattle.retrograde.proofs.pulling.add_plays.Invariants.{shares_of}
use Rattle.retrograde.proofs.pulling.add_plays.Goals as goal

split : (j n : ℕ) → j < n + 1 → (j < n) ⊎ (j ≡ n)
split j n lt = grind arith

pub loop-index-preserved : goal.loop-index-preserved
loop-index-preserved c =
    let i = c.loop-index.index in
    let plays = c.args.plays.now in
    let kept = c.loop-index.invariant in
    let spreads = map shares_of c.loop-index.spreads in
    let spread = shares_of c.spread.result in
    let play = get_or plays i 0 in
    let set = map-set shares_of c.loop-index.spreads i c.spread.result in
    let long = length-map c.loop-index.spreads shares_of in
    record {
      means_len = length-set c.loop-index.means i c.mean.result ∙ kept.means_len;
      spreads_len = length-set c.loop-index.spreads i c.spread.result ∙ kept.spreads_len;
      means_are = λ full j lt. ⊎_elim
          (λ less.
          get_or-set_other c.loop-index.means i j c.mean.result 0 (λ e. absurd (omega arith))
          ∙ kept.means_are full j less)
          (λ same.
          get_or-set_at c.loop-index.means i j c.mean.result 0 same
          (omega (arith, kept.means_len, c.loop-index-test.true))
          ∙ (c.mean.ensures
          ∙ c.requires.lower.means_are full play (c.requires.made i c.loop-index-test.true)
          ∙ ap (λ n. mean_of_rank full (get_or plays n 0)) (sym same)))
          (split j i lt);
      spreads_are = λ full j lt. ap (λ (xs : List (List ℕ)). get_or xs j []) set ∙ ⊎_elim
          (λ less.
          get_or-set_other spreads i j spread [] (λ e. absurd (omega arith))
          ∙ kept.spreads_are full j less)
          (λ same.
          get_or-set_at spreads i j spread [] same
          (omega (arith, kept.spreads_len, long, c.loop-index-test.true))
          ∙ (c.spread.ensures
          ∙ c.requires.lower.shares_are full play (c.requires.made i c.loop-index-test.true)
          ∙ ap (λ n. shares_of_rank full (get_or plays n 0)) (sym same)))
          (split j i lt);
    }

-- all rolls are added
pub returns-clause-mean : goal.returns-clause-mean
returns-clause-mean c full =
    c.add_up.ensures.mean
    ∙ sum_by-equal (λ v. weight v * get_or c.loop-index.means (roll_index v) 0)
    (λ v. weight v * mean_of_rank full (get_or c.args.plays.now (roll_index v) 0)) all_rolls
    (λ v.
    ap (λ n. weight v * n)
    (c.loop-index.invariant.means_are full (roll_index v)
    (omega (arith, roll_index-range v, c.loop-index-test.false))))

pub returns-clause-shares : goal.returns-clause-shares
returns-clause-shares c full k few =
    c.add_up.ensures.shares k few
    ∙ sum_by-equal
    (λ v.
    weight v
    * get_or
    (get_or (map shares_of c.loop-index.spreads) (roll_index v) []) k 0)
    (λ v. weight v * get_or (shares_of_rank full (get_or c.args.plays.now (roll_index v) 0)) k 0)
    all_rolls
    (λ v.
    ap (λ (xs : List ℕ). weight v * get_or xs k 0)
    (c.loop-index.invariant.spreads_are full (roll_index v)
    (omega (arith, roll_index-range v, c.loop-index-test.false))))

pub add_up-requires : goal.add_up-requires
add_up-requires c = (
  omega arith,
  (
    omega arith,
    (
      c.requires.few,
      (
        λ i k lt less. absurd (omega (arith, less)),
        λ i k lt le.
            ap (λ (xs : List ℕ). get_or xs k 0)
            (c.loop-index.invariant.spreads_are all-records i
            (omega (arith, lt, c.loop-index-test.false)))
            ∙ c.requires.beyond all-records i k lt le,
      ),
    ),
  ),
)
