-- The equations of the numbers of a position of a board file, by what stands in its record.
use Rattle.std.proofs.Common.{◌≡◌, ◌↔◌, ⊎_elim, ℕ, zero, suc, ◌+◌, ◌-◌, ◌*◌, ◌/◌, ◌%◌, ◌^◌, ◌<◌, ◌≤◌}
use Rattle.std.proofs.Common.{sym, ap, subst, ◌∙◌, arith}
use Rattle.std.proofs.lemmas.Bool.{cases_lt}
use Rattle.race_model.specs.Prelude.{Board, IsFinished, pips, Throw, roll_at, roll_index, weighted, rank, at_rank}
use Rattle.race_model.specs.Prelude.{most_rolls, EndsIn, play_in, recorded_in, board_book, mean_parts, count_parts}
use Rattle.race_model.specs.Prelude.{count_at, value_of_parts}
use Rattle.race_model.proofs.Dice.RollSums.{roll_index-range}
use Rattle.race_model.proofs.Plays.Results.{legal_position, only_finished}
use Rattle.race_model.proofs.Ranks.RankOrder.{at_rank-rank}
use Rattle.race_model.proofs.Ranks.PositionTotals.{rank-range}
use Rattle.race_model.proofs.Ranks.BestPlays.{legal_lower}
use Rattle.race_model.proofs.Strategies.Horizons.{ends_in_most, sum-at_most_pips}
use Rattle.race_model.proofs.Books.Bounded.{count-beyond, weighted-none}
use Rattle.db_layout.specs.BoardRecords.{Stored}
use Rattle.db_layout.specs.LowerRecords.{Lower, AreBelow, AreResults, board_mean}
use Rattle.db_layout.proofs.KnownRecords.{meets-below, count-one}
use Rattle.db_layout.proofs.KnownRecords.{told-at_end, told-at_once, told-beyond, told-within}
use Rattle.certificate.specs.BoardTests.{IsTested, MeanHolds, CountHolds}
use Rattle.certificate.proofs.RecordTests.{play-is, sum-is}

module _ {lower : Lower} {x : Board} {stored : Stored} {plays : ℕ → ℕ}
    (t : IsTested lower x stored plays) where
  -- the pip count that the rank tells
  rolls-are : most_rolls (pips (at_rank (rank x))) ≡ most_rolls (pips x)
  rolls-are = ap (λ y. most_rolls (pips y)) (at_rank-rank x t.position)

  -- where a count is told the game goes on
  pub told-unfinished : (k : ℕ) → 1 ≤ k → k ≤ most_rolls (pips x) → ¬ IsFinished x
  told-unfinished k some within end =
      let none = ap (λ y. most_rolls (pips y)) (only_finished x t.position end) in
      omega (arith, none, some, within)

  -- from a position that isn't finished the numbers are those of the plays
  module _ (unfinished : ¬ IsFinished x) where
    pub results-are : AreResults x plays
    results-are i lt =
        let played = (t.held i lt).0 in (
          recorded_in (board_book lower.bytes) x (roll_at i),
          played.legal,
          played.ranked ∙ sym (t.read i lt),
        )

    pub below-are : AreBelow plays lower.count
    below-are i lt =
        let y = results-are i lt in
        omega (arith, legal_lower x (roll_at i) y.0 t.position unfinished y.1, y.2, t.next)

    sum : (g : ℕ → ℕ) → weighted (λ v. g (plays (roll_index v)))
        ≡ weighted (λ v. g (play_in (board_book lower.bytes) x v))
    sum = sum-is (board_book lower.bytes) x plays t.read

    -- the parts of the mean are those of one roll and the plays exactly where it holds
    pub mean-is : (mean : ℕ) →
        36 * mean ≡ 36 * 36 ^ 33 + weighted (λ v. board_mean lower.bytes (plays (roll_index v))) →
        ((mean_parts stored.bytes).upper ≡ mean / 36 ^ 11)
        × ((mean_parts stored.bytes).lower ≡ mean % 36 ^ 11) ↔ MeanHolds lower.bytes x
    mean-is mean value =
        let read = ap (λ b. value_of_parts (mean_parts b)) t.bytes in
        let added = sum (board_mean lower.bytes) in (
          λ are. (
            subst (λ b. (mean_parts b).lower < 36 ^ 11) t.bytes (omega (arith, are.1)),
            record {
              at_end = λ end. absurd (unfinished end);
              before = λ _. omega (arith, are.0, are.1, value, read, added);
            },
          ),
          λ holds.
              let small = subst (λ b. (mean_parts b).lower < 36 ^ 11) (sym t.bytes) holds.0 in
              let equal = holds.1.before unfinished in (
                omega (arith, small, equal, value, read, added),
                omega (arith, small, equal, value, read, added),
              ),
        )

    -- the parts of a count that is told are those of the sums exactly where its equation holds
    pub count-is : (k high low : ℕ) → 1 ≤ k → k ≤ most_rolls (pips x) →
        high * 36 ^ 11 + low ≡ weighted (λ v. count_at lower.bytes (plays (roll_index v)) (k - 1)) →
        (k - 1 < 11 → high ≡ 0) → (11 ≤ k - 1 → low < 36 ^ 11) →
        ((count_parts stored.bytes k).upper ≡ high) × ((count_parts stored.bytes k).lower ≡ low)
        ↔ CountHolds lower.bytes x k
    count-is zero high low some within value one short = absurd (omega arith)
    count-is (suc k) high low some within value one short =
        let told =
        told-within lower.bytes (rank x) (suc k) some (omega (arith, within, rolls-are))
        ∙ ap (λ b. value_of_parts (count_parts b (suc k))) (sym t.bytes) in
        let same =
        value
        ∙ ap (λ j. weighted (λ v. count_at lower.bytes (plays (roll_index v)) j)) (fewer k)
        ∙ sum (λ r. count_at lower.bytes r k) in (
          λ are. (
            λ many few.
                let here = short (omega (arith, many)) in
                subst (λ b. (count_parts b (suc k)).lower < 36 ^ 11) t.bytes
                (omega (arith, are.1, here)),
            (
              λ end. absurd (unfinished end),
              λ _. told ∙ (omega (arith, are.0, are.1) ∙ same),
            ),
          ),
          λ holds.
              let equal = sym told ∙ holds.1.1 unfinished ∙ sym same in
              ⊎_elim
              (λ few.
              let none = one (omega (arith, few)) in
              let first = count-one stored.bytes (suc k) (omega (arith, few)) in
              (omega (arith, none, first), omega (arith, none, first, equal)))
              (λ many.
              let here = short (omega (arith, many)) in
              let there = subst (λ b. (count_parts b (suc k)).lower < 36 ^ 11) (sym t.bytes)
              (holds.0 (omega (arith, many)) within) in
              (omega (arith, here, there, equal), omega (arith, here, there, equal)))
              (cases_lt (suc k) 12),
        )
      where
        fewer : (k : ℕ) → suc k - 1 ≡ k
        fewer k = omega arith

    -- what the plays lead to has none of so many throws
    later : (m : ℕ) → EndsIn m x → (k : ℕ) → m ≤ k → k ≤ 33 → (v : Throw) →
        count_at lower.bytes (play_in (board_book lower.bytes) x v) k ≡ 0
    later zero ends k from few v = absurd (unfinished ends)
    later (suc m) ends k from few v =
        let i = roll_index v in
        let y = results-are i (roll_index-range v) in
        let is = legal_position x (roll_at i) y.0 t.position y.1 in
        let low = legal_lower x (roll_at i) y.0 t.position unfinished y.1 in
        ap (λ r. count_at lower.bytes r k)
        (sym (y.2 ∙ play-is (board_book lower.bytes) x plays t.read v))
        ∙ count-beyond (board_book lower.bytes) (count_at lower.bytes) m y.0
        (ends unfinished (roll_at i) y.0 y.1) is
        (meets-below lower.bytes lower.count (omega (arith, t.next, rank-range x t.position))
        t.local y.0 is (omega (arith, low, t.next))) k (omega (arith, from)) few

  -- a count that isn't told holds
  pub untold-holds : (k : ℕ) → k ≤ 33 → (1 ≤ k → most_rolls (pips x) < k) →
      CountHolds lower.bytes x k
  untold-holds zero le beyond = (
    λ many. absurd (omega (arith, many)),
    (
      λ end. told-at_end lower.bytes (rank x)
          (ap pips (at_rank-rank x t.position) ∙ ap pips (only_finished x t.position end)),
      λ unfinished. told-at_once lower.bytes (rank x)
          (λ none. unfinished (omega (
            arith,
            sum-at_most_pips 0 x,
            none,
            ap pips (at_rank-rank x t.position),
          ))),
    ),
  )
  untold-holds (suc k) le beyond =
      let more = beyond (omega arith) in
      let none = told-beyond lower.bytes (rank x) (suc k) (omega (arith, more, rolls-are)) in (
        λ many within. absurd (omega (arith, more)),
        (
          λ _. none,
          λ unfinished. none
              ∙ sym (weighted-none
              (λ v. count_at lower.bytes (play_in (board_book lower.bytes) x v) k)
              (later unfinished (most_rolls (pips x)) (ends_in_most x t.position) k
              (omega (arith, more)) (omega arith))),
        ),
      )
