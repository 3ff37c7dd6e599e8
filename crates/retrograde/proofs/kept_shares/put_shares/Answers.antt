-- By the loop over the numbers of rolls.
use Rattle.std.proofs.Common.{◌≡◌, ⊎_elim, ℕ, List, ◌+◌, ◌*◌, ap, sym, ◌∙◌, arith, slice_index}
use Rattle.std.specs.Int.{w128, from_le_bytes}
use Rattle.std.proofs.lemmas.Bool.{cases_lt}
use Rattle.race_model.specs.Prelude.{bytes_at}
use Rattle.db_layout.proofs.ByteParts.{bytes_at-agree, front-agree}
use Rattle.retrograde.proofs.kept_shares.put_shares.Goals as goal

pub loop-k-preserved : goal.loop-k-preserved
loop-k-preserved c =
    let place = c.args.start + 16 * c.from-index.result in
    let new = c.put_low.new.room in record {
      len = c.put_low.ensures.len ∙ c.loop-k.invariant.len;
      put = λ j less. ⊎_elim
          (λ earlier.
          ap (from_le_bytes w128)
          (bytes_at-agree new c.loop-k.room place (c.args.start + 16 * j) 16
          c.put_low.ensures.front (omega (arith, earlier, c.from-index.ensures)))
          ∙ c.loop-k.invariant.put j earlier)
          (λ last.
          let here : j ≡ c.from-index.result = omega (arith, less, last, c.from-index.ensures) in
          ap (λ i. from_le_bytes w128 (bytes_at new (c.args.start + 16 * i) 16)) here
          ∙ c.put_low.ensures.put
          ∙ ap (λ (xs : List ℕ). slice_index xs c.from-index.result) c.shares-shares.ensures.value
          ∙ ap (slice_index c.args.spread.now) (sym here))
          (cases_lt j c.loop-k.k);
      front =
          front-agree new c.loop-k.room c.args.start place (omega arith) c.put_low.ensures.front
          ∙ c.loop-k.invariant.front;
    }
