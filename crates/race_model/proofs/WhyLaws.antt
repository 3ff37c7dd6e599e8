-- The lemmas of which the prover makes a law by itself, and why each holds.
use Rattle.race_model.proofs.Books.Boards.{right_board, local_board, board_counts}
use Rattle.race_model.proofs.Books.Widths.{place_of_widths, length_of_widths}
use Rattle.race_model.proofs.Strategies.Horizons.{within_22}
use Rattle.race_model.proofs.Dice.Throws.{index_of_roll, roll_of_index, roll_or_reversed, roll_index-reversed}
use Rattle.race_model.proofs.Numbers.LowestTerms.{one_fraction, one_number_of_thousandths}
use Rattle.race_model.proofs.Books.Losses.{shares_add_up, shares_weigh, no_share_beyond}
use Rattle.race_model.proofs.Plays.Steps.{playable}
use Rattle.race_model.proofs.Ranks.RankOrder.{at_rank-rank, rank_apart, rank-fewer, rank_bound}
use Rattle.race_model.proofs.Ranks.PositionTotals.{rank-range, rank-finished}
use Rattle.race_model.proofs.Replies.Lines.{words_of_query, query_of_words, one_query, short_line}
use Rattle.race_model.proofs.Strategies.Spreads.{counts_add_up, counts_weigh}
use Rattle.race_model.proofs.RightFiles.ToldShares.{told}
use Rattle.race_model.proofs.RightFiles.Kinds.{either_right, right_of_database, right_of_board}
use Rattle.race_model.proofs.Strategies.LeastExists.{least_in_agree, least_exists, least_exists_33}
use Rattle.race_model.proofs.Strategies.SampleCounts.{sample_total, sample_one, sample_two, sample_mean}
use Rattle.race_model.proofs.Strategies.SampleCounts.{sample_share_of_one, sample_share_of_two}
use Rattle.race_model.proofs.Strategies.SampleLeast.{sample_least}
use Rattle.race_model.proofs.Plays.SinglePlays.{sample_fits}
use Rattle.race_model.proofs.Strategies.Histories.{total_over-more, count_over-more, total_over-turn, count_over-turn}
use Rattle.race_model.proofs.Strategies.Histories.{count_over-turn_none}

-- A board file by its book, which has the numbers of 33 throws.
pub ruleset law_boards = (right_board, local_board, board_counts)

-- The widths of the counts, added up.
pub ruleset law_widths = (place_of_widths, length_of_widths)

-- Each case by computation.
pub ruleset law_rolls = (index_of_roll, roll_of_index, roll_or_reversed, roll_index-reversed)

-- By Euclid's algorithm.
pub ruleset law_fractions = (one_fraction, one_number_of_thousandths)

-- There is a step from the highest point: off the board, or down by the die.
pub ruleset law_playable = (playable)

-- Each clause is a lemma on ranks.
pub ruleset law_rank = (
  at_rank-rank,
  rank_apart,
  rank-fewer,
  rank_bound,
  rank-range,
  rank-finished,
)

-- No word of a line has a space, and the first words differ in their first two letters.
pub ruleset law_lines = (words_of_query, query_of_words, one_query, short_line)

-- Each sequence is counted once, at its number of rolls.
pub ruleset law_spread = (
  within_22,
  counts_add_up,
  counts_weigh,
  shares_add_up,
  shares_weigh,
  no_share_beyond,
  told,
)

-- The kind that a header states.
pub ruleset law_versions = (either_right, right_of_database, right_of_board)

-- Of the results of each throw one has the least total, and the plan that plays there is least.
pub ruleset law_least = (least_in_agree, least_exists, least_exists_33)

-- Two throws by computation, and the others by scale.
pub ruleset law_sample = (
  sample_total,
  sample_one,
  sample_two,
  sample_mean,
  sample_share_of_one,
  sample_share_of_two,
  sample_least,
  sample_fits,
)

-- By induction on the number of turns: a strategy that has stopped needs no more rolls.
pub ruleset law_scale = (total_over-more, count_over-more)

-- The sequences of a throw more, by their first throw.
pub ruleset law_turn = (total_over-turn, count_over-turn, count_over-turn_none)
