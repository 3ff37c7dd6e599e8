use Rattle.std.proofs.Common.{◌≡◌, ℕ, ◌+◌, ◌-◌, ◌<◌, ◌≤◌, ◌^◌, List, length, map, slice_index, slice_index_or}
use Rattle.std.proofs.Common.{ap, sym, subst, ◌∙◌, arith, sum_by}
use Rattle.std.specs.List.{range_with_len}
use Rattle.std.proofs.lemmas.Bool.{false≢true}
use Rattle.std.proofs.lemmas.List.{get_or-map}
use Rattle.bearoff_c.specs.Longs.{long_number_of}
use Rattle.bearoff_c.specs.declared.numbers.Long.{Long}
use Rattle.bearoff_c.proofs.AddedShares.{sum_next, sum_rises}
use Rattle.bearoff_c.proofs.calls.distributions.shares_to.Goals as goal

-- a share that is read
read : (shares : List Long) (i k : ℕ) (d : Long) → i ≡ k → k < length shares →
    long_number_of (slice_index_or shares i d) ≡ slice_index (map long_number_of shares) k
read shares i k d same low =
    ap (λ j. long_number_of (slice_index_or shares j d)) same
    ∙ sym (get_or-map long_number_of shares k d 0 low)

-- a share that is read is added
added : (shares : List Long) (i k : ℕ) (d total next : Long) → i ≡ k → k < length shares →
    long_number_of next ≡ long_number_of total + long_number_of (slice_index_or shares i d) →
    long_number_of next ≡ long_number_of total + slice_index (map long_number_of shares) k
added shares i k d total next same low is =
    is ∙ ap (λ n. long_number_of total + n) (read shares i k d same low)

pub loop-k-preserved : goal.loop-k-preserved
loop-k-preserved c =
    let shares = c.args.shares.now in
    let k = c.loop-k.k in
    let f = slice_index (map long_number_of shares) in
    record {
      sum = added shares c.from.result k _ c.loop-k.total c.in_ok-total.total c.from.ensures
          (omega (arith, c.told-shares)) (c.in_ok-total.ensures {u = tt}).value
          ∙ ap (λ s. s + f k) c.loop-k.invariant.sum ∙ sym (sum_next f k);
    }

pub returns-in_err-total-clause-none : goal.returns-in_err-total-clause-none
returns-in_err-total-clause-none c =
    let shares = c.args.shares.now in
    let most = c.args.most in
    let k = c.loop-k.k in
    let f = slice_index (map long_number_of shares) in
    let same : k + 1 + (most - k) ≡ most + 1 = omega arith in
    let rises = subst (λ n. sum_by f (range_with_len 0 (k + 1)) ≤ sum_by f (range_with_len 0 n))
    same (sum_rises f (k + 1) (most - k)) in
    let low : k < length shares = omega (arith, c.told-shares) in
    let next : sum_by f (range_with_len 0 (k + 1)) ≡ long_number_of c.loop-k.total + f k =
    sum_next f k ∙ ap (λ s. s + f k) (sym c.loop-k.invariant.sum) in
    let over : ¬ (long_number_of c.loop-k.total + f k < 2 ^ 192) =
    λ less. false≢true ((c.in_err-total.ensures {u = tt}).some.1
    (subst (λ n. long_number_of c.loop-k.total + n < 2 ^ 192)
    (sym (read shares c.from.result k _ c.from.ensures low)) less)) in
    rw c.from_residual.ensures (omega (arith, rises, next, over))
