-- The words of the game and of its files that most clauses and proofs cite, passed on from one
-- place. Declares nothing.
pub use Rattle.race_model.specs.BestPlays.{IsBestOf, IsBestPlay}
pub use Rattle.race_model.specs.BoardEquations.{HoldsOnBoard, AsksOnBoard, IsFirstBoardFault, IsLocalOnBoard}
pub use Rattle.race_model.specs.BoardEquations.{IsLocalBoard}
pub use Rattle.race_model.specs.BoardFiles.{Parts, value_of_parts, count_width, count_place, board_length, board_layout}
pub use Rattle.race_model.specs.BoardFiles.{board_header, IsBoardFile, board_record, told_count, board_book}
unfoldable pub use Rattle.race_model.specs.BoardFiles.{board_place, mean_parts, board_play_of, count_parts, count_at}
pub use Rattle.race_model.specs.Books.{Book, mean_in, play_in, recorded_in, share_in, IsPlayedIn, whole_in, IsRightIn}
pub use Rattle.race_model.specs.Books.{IsRightBook}
unfoldable pub use Rattle.race_model.specs.Books.{follow_in}
pub use Rattle.race_model.specs.BuiltFile.{IsLowest, IsBuilt}
pub use Rattle.race_model.specs.Dice.{Die, one, two, three, four, five, six, number, Throw, reversed, IsRoll}
pub use Rattle.race_model.specs.Dice.{roll_index, weight, weighted}
unfoldable pub use Rattle.race_model.specs.Dice.{throws, all_rolls, roll_at}
pub use Rattle.race_model.specs.Endings.{is_ended_by, IsCounted, HasCountIn}
unfoldable pub use Rattle.race_model.specs.Endings.{endings}
pub use Rattle.race_model.specs.Enumerations.{step_from, all_steps, all_runs, all_results}
pub use Rattle.race_model.specs.FaultLines.{header_line, test_line, read_line}
pub use Rattle.race_model.specs.Files.{header, Layout, header_by, IsBytes, bytes_at, IsFile, IsFileBy, layout_of}
pub use Rattle.race_model.specs.Files.{told_record, record_at, mean, play, spread, book_of}
unfoldable pub use Rattle.race_model.specs.Files.{place_by, version_of, bound_of, record_place, share_before}
unfoldable pub use Rattle.race_model.specs.Files.{shares_after, mean_of, play_of, share_of, mean_at, play_at, spread_at}
pub use Rattle.race_model.specs.FirstFault.{Test, play_test, least_test, mean_test, spread_test, rank_of, place_of}
pub use Rattle.race_model.specs.FirstFault.{Holds, HoldsOver, Asks, AsksIn, IsFirstFailing, IsFirstInRecord}
pub use Rattle.race_model.specs.FirstFault.{IsFirstFault}
pub use Rattle.race_model.specs.FirstPlays.{Move, Moves, IsFoundBefore, IsFirstOf, IsFirstPlay, greater_first}
pub use Rattle.race_model.specs.FirstPlays.{smaller_first, point_text, move_text}
pub use Rattle.race_model.specs.Fractions.{IsFraction, IsMean, IsEffectivePips, IsThousandths}
pub use Rattle.race_model.specs.FurtherBooks.{further_by}
pub use Rattle.race_model.specs.Headers.{version, bound, HeaderTest, long_enough, magic, record_bytes, reserved}
pub use Rattle.race_model.specs.Headers.{exact_length, HeaderHoldsBy, IsFirstHeaderFault, IsFirstHeaderFaultBy}
pub use Rattle.race_model.specs.Headers.{IsHeader, IsBoardHeader, IsFirstBoardHeaderFault}
pub use Rattle.race_model.specs.Horizon.{most_rolls}
pub use Rattle.race_model.specs.InputLines.{pieces, before_first_piece, before_rest, rest_of, without_return}
pub use Rattle.race_model.specs.InputLines.{whole_lines, last_line, lines_of, HasNoFeed, IsCut}
pub use Rattle.race_model.specs.Levels.{level_count, IsLevel, IsLevelIn, IsLevelLineOver, IsLevelLineIn}
pub use Rattle.race_model.specs.LocalEquations.{recorded, IsPlayed, IsBestIn, IsBest, HasMean, HasMeanOver}
pub use Rattle.race_model.specs.LocalEquations.{HasShareOver, HasShare, HasLeastMean, HasLeastMeanOver, IsLocalOver}
pub use Rattle.race_model.specs.LocalEquations.{HasMeanIn, HasShareIn, HasLeastMeanIn, IsLocalIn, IsLocalBook, IsLong}
pub use Rattle.race_model.specs.LocalEquations.{IsLocalAt, IsLocalDatabase}
unfoldable pub use Rattle.race_model.specs.LocalEquations.{whole}
pub use Rattle.race_model.specs.Losses.{loss, IsLossIn, IsLoss, loss_in, BeginsWith, IsListedBeforeIn, IsMoveListIn}
pub use Rattle.race_model.specs.Losses.{IsMoveList}
pub use Rattle.race_model.specs.MostDice.{Uses, IsOffered, no_die, first_alone, second_alone, both_in_order}
pub use Rattle.race_model.specs.MostDice.{both_in_reverse, MostDice}
pub use Rattle.race_model.specs.Plays.{Step, StepFrom, bear_off, move_down, from_highest, Run, double, Legal, in_order}
pub use Rattle.race_model.specs.Plays.{in_reverse}
pub use Rattle.race_model.specs.PositionText.{is_digit, is_leading_digit, count_value, IsPositionText}
pub use Rattle.race_model.specs.Positions.{checkers, Board, pips, pips_from, more, IsPosition, IsFinished, finished}
pub use Rattle.race_model.specs.Positions.{IsHighest, fewer}
pub use Rattle.race_model.specs.Queries.{Query, mean_query, dist_query, play_query, loss_query, moves_query, rank_query}
pub use Rattle.race_model.specs.Queries.{dice_text, IsRollText, IsQuery, words, HasWords, subject, IsWithinAlike}
pub use Rattle.race_model.specs.Queries.{HasTooMany, AsksOfFinished, HasResult, Refusal, bad_line, too_many, over_bound}
pub use Rattle.race_model.specs.Queries.{at_end, not_legal, IsRefused, no_query, of_too_many, of_over_bound}
pub use Rattle.race_model.specs.Queries.{of_finished, of_no_result, IsAccepted}
pub use Rattle.race_model.specs.Ranks.{comes_first, is_before}
unfoldable pub use Rattle.race_model.specs.Ranks.{rank, boards, numbers_from, count_positions, count_to, first_of}
unfoldable pub use Rattle.race_model.specs.Ranks.{position_count, at_rank}
pub use Rattle.race_model.specs.Replies.{fraction_text, thousandths_text, IsShareTextOver, IsMeanReplyOver}
pub use Rattle.race_model.specs.Replies.{IsSharePartOver, IsDistReplyOver, IsDistReply, IsChoicePart, IsChoicePartOver}
pub use Rattle.race_model.specs.Replies.{IsPlayReply, IsMovesReply, IsMovesReplyOver, refused, IsAnswerOver}
pub use Rattle.race_model.specs.Replies.{refusal_text, IsReply, IsReplyOver, answered, IsReplyIn}
pub use Rattle.race_model.specs.RightFiles.{follow, IsRight, kind_by, IsRightBy, IsRightDatabase, IsRightBoard}
pub use Rattle.race_model.specs.RightFiles.{IsRightAt}
unfoldable pub use Rattle.race_model.specs.RightFiles.{kind_of}
pub use Rattle.race_model.specs.SameNumbers.{HasSamePlays, HasSameNumbers, HasSameNumbersIn}
pub use Rattle.race_model.specs.Samples.{worth}
unfoldable pub use Rattle.race_model.specs.Samples.{from_six_point}
pub use Rattle.race_model.specs.Strategies.{rolls, stop, Strategy, turn, Fits, total, IsLeastIn, IsLeast, count_of}
pub use Rattle.race_model.specs.Strategies.{IsWithin, EndsIn}
unfoldable pub use Rattle.race_model.specs.Strategies.{sequences, total_over, count_over}
pub use Rattle.race_model.specs.ToldShares.{told_share}
pub use Rattle.race_model.specs.Upgrades.{IsUpgrade}
pub use Rattle.race_model.specs.Versions.{Version, full, compact, version_number, version_by, greatest_bound}
pub use Rattle.race_model.specs.Versions.{stated_length, first_share, share_count, record_length}
pub use Rattle.race_model.specs.WrittenNumbers.{IsMeanWritten, IsCountWritten, IsWritten}
