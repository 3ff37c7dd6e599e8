-- There is such a mean.
use Rattle.std.proofs.Common.{◌≡◌, ◌+◌, ◌*◌, ◌^◌, ap, sym, ◌∙◌, slice_index}
use Rattle.db_layout.proofs.KnownRecords.{of_some}
use Rattle.db_layout.proofs.BoardSums.{mean-exists}
use Rattle.db_layout.proofs.board_numbers.mean_of.Goals as goal

pub returns : goal.returns
returns c =
    let known = c.count-count.ensures in
    let some = mean-exists c.args.lower.now.bytes c.args.lower.now.count known.few known.local
    (slice_index c.args.plays.now) c.requires.below c.args.position.now c.requires.position
    c.requires.unfinished c.requires.results in
    let is_mean = c.mean.ensures.some.1
    (some.0, some.1, some.2 ∙ ap (λ n. 36 * 36 ^ 33 + n) (sym c.sum_of_means.ensures)) in
    ap (λ n. 36 * n) c.unwrap_or.ensures
    ∙ of_some (λ mean. 36 * mean ≡ 36 * 36 ^ 33 + c.sum_of_means.result.sum) c.mean.result 0
    is_mean c.mean.ensures.value
    ∙ ap (λ n. 36 * 36 ^ 33 + n) c.sum_of_means.ensures
