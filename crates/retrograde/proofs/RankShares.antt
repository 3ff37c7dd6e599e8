-- Which numbers of rolls have a share in the record of a rank, and what they add up to.
use Rattle.std.proofs.Common.{◌≡◌, ⊎_elim, ℕ, ◌<◌, sum, sym, ap, ◌∙◌, arith, slice_index}
use Rattle.std.specs.List.{range_with_len}
use Rattle.std.proofs.lemmas.Bool.{cases_lt}
use Rattle.std.proofs.lemmas.List.{get_or_past}
use Rattle.std.proofs.lemmas.List.Sums.{sum-map}
use Rattle.std.proofs.lemmas.List.FromFn.{fill_by_all}
use Rattle.race_model.specs.Prelude.{count_of, pips, at_rank, count_to, most_rolls, whole}
use Rattle.race_model.proofs.Ranks.RankOrder.{at_rank_position}
use Rattle.race_model.proofs.Ranks.PositionTotals.{at_rank_under}
use Rattle.race_model.proofs.Strategies.Horizons.{within_22, count_of-beyond}
use Rattle.race_model.proofs.Strategies.Spreads.{counts_add_up}
use Rattle.retrograde.specs.AllRecords.{AllRecords, shares_of_rank}

-- the record of a rank
module _ (full : AllRecords) (r : ℕ) (under : r < count_to 58) where
  -- has no share beyond the most rolls of its position
  pub none-of_rank : (k : ℕ) → most_rolls (pips (at_rank r)) < k →
      slice_index (shares_of_rank full r) k ≡ 0
  none-of_rank k beyond = ⊎_elim
      (λ few.
      let reached = full.made.reached r under in
      sym (reached.counts k (omega (arith, few)))
      ∙ count_of-beyond (at_rank r) reached.strategy k (at_rank_position r) reached.fits beyond)
      (λ many.
      get_or_past (shares_of_rank full r) k 0 (omega (arith, many, full.shares_len r under)))
      (cases_lt k 23)

  -- and its shares add up to the whole
  pub whole-of_rank : sum (shares_of_rank full r) ≡ whole
  whole-of_rank =
      let reached = full.made.reached r under in
      ap sum
      (fill_by_all (count_of reached.strategy) (shares_of_rank full r) 23 0
      (full.shares_len r under)
      (λ k less. sym (reached.counts k (omega (arith, less)))))
      ∙ sum-map (count_of reached.strategy) (range_with_len 0 23)
      ∙ counts_add_up reached.strategy
      (within_22 (at_rank r) reached.strategy (at_rank_position r)
      (at_rank_under 58 r under).1 reached.fits)
