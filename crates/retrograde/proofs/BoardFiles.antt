-- The built file: bytes that begin with its header, and hold all its records.
use Rattle.std.proofs.Common.{◌≡◌, ℕ, ◌+◌, ◌<◌, ◌≤◌, List, length, take}
use Rattle.std.proofs.Common.{ap, sym, subst, ◌∙◌, arith}
use Rattle.std.proofs.lemmas.List.{length-take-le, take-take}
use Rattle.std.specs.Int.{w16, from_be_bytes}
use Rattle.std.proofs.lemmas.Nat.{from_be_bytes-to_be_bytes_2}
use Rattle.race_model.specs.Prelude.{Board, IsPosition, pips, rank, count_to, IsBytes, bytes_at, bound_of, board_header}
use Rattle.race_model.specs.Prelude.{board_place, IsBoardFile}
use Rattle.race_model.proofs.Ranks.RankOrder.{rank_bound}
use Rattle.race_model.proofs.FirstFaults.HeaderFacts.{small_bytes}
use Rattle.race_model.proofs.Books.Boards.{right_board}
use Rattle.db_layout.proofs.BoardPlaces.{board_place-least}
use Rattle.db_layout.proofs.ByteParts.{bytes_at-front}
use Rattle.db_layout.proofs.SameRecords.{records-agree}
use Rattle.retrograde.specs.BuiltBoards.{IsBuiltTo, IsBuiltBoard}
use Rattle.retrograde.proofs.NextBoardRecords.{built-agree}

-- bytes that begin with the header of a bound, and whose number is that of its file
module _ (f : List ℕ) (b : ℕ) (low : b ≤ 90) (headed : take 32 f ≡ board_header b)
    (long : length f ≡ board_place (count_to b)) where
  -- a field of the header
  field : (place n : ℕ) → place + n ≤ 32 → bytes_at f place n ≡ bytes_at (board_header b) place n
  field place n within =
      sym (bytes_at-front f 32 place n within) ∙ ap (λ (bs : List ℕ). bytes_at bs place n) headed

  -- the bound
  pub bound_is : bound_of f ≡ b
  unfolding bound_of
  bound_is =
      ap (from_be_bytes w16) (field 10 2 (omega arith))
      ∙ from_be_bytes-to_be_bytes_2 b (omega arith)

  pub board_file : IsBoardFile f
  board_file = record {
    bounded = omega (arith, bound_is);
    headed = headed ∙ ap board_header (sym bound_is);
    whole = long ∙ ap (λ n. board_place (count_to n)) (sym bound_is);
  }

  -- if all its records are those of the built file, it is that
  pub built_board : IsBytes f → IsBuiltTo f (count_to b) → IsBuiltBoard b f
  built_board small built = record {
    bytes = small;
    bound_is = bound_is;
    right = right_board f (record {
      file = board_file;
      written =
          λ x at few. (built.local x at (under x at (omega (arith, few, bound_is)))).written;
      at_each =
          λ x at few. (built.local x at (under x at (omega (arith, few, bound_is)))).equations;
    });
    plays = λ x at few. built.plays x at (under x at few);
  }
    where
      under : (x : Board) → IsPosition x → pips x ≤ b → rank x < count_to b
      under x at few = (rank_bound x b at).1 few

-- so it is what the first bytes of a room are that hold the header and all records
pub built_in_room : (room : List ℕ) (b total : ℕ) → IsBytes room → b ≤ 90 → total ≡ count_to b →
    take 32 room ≡ board_header b → board_place total ≤ length room → IsBuiltTo room total →
    IsBuiltBoard b (take (board_place total) room)
built_in_room room b total small low counted headed long built =
    let f = take (board_place total) room in
    built_board f b low
    (take-take 32 (board_place total) room (board_place-least total) ∙ headed)
    (length-take-le (board_place total) room long ∙ ap board_place counted)
    (small_bytes room 0 (board_place total) small)
    (subst (IsBuiltTo f) counted
    (built-agree room f total
    (records-agree room f (board_place total) total
    (sym (take-take (board_place total) (board_place total) room (omega arith))) (omega arith))
    built))
