use Rattle.std.proofs.Common.{◌≡◌, ℕ, ◌≤◌, List, length, take, sym, ap, ◌∙◌, arith}
use Rattle.std.proofs.lemmas.List.{length-take-le}
use Rattle.race_model.specs.Prelude.{count_to, board_place}
use Rattle.retrograde.specs.BuiltBoards.{IsBuiltBoard}
use Rattle.bearoff_c.proofs.calls.files.bearoff_build.Goals as goal

-- a built board file has a bound of at most 90
low_bound : (most : ℕ) (f : List ℕ) → IsBuiltBoard most f → most ≤ 90
low_bound most f built = omega (arith, built.bound_is, built.right.file.bounded)

-- a built board file has as many bytes as its bound wants
whole_length : (most n : ℕ) (room : List ℕ) → IsBuiltBoard most (take n room) → n ≤ length room →
    board_place (count_to most) ≡ n
whole_length most n room built within =
    sym (built.right.file.whole ∙ ap (λ b. board_place (count_to b)) built.bound_is)
    ∙ length-take-le n room within

pub returns-in-Ok-clause-over_board : goal.returns-in-Ok-clause-over_board
returns-in-Ok-clause-over_board c = λ is. (
  λ e. absurd (omega (arith, e)),
  λ over. absurd (omega (arith, over, low_bound _ _ (c.in-Ok.ensures {u = tt}).built)),
)

pub returns-in-Ok-clause-short_board : goal.returns-in-Ok-clause-short_board
returns-in-Ok-clause-short_board c = λ is.
    let told = c.in-Ok.ensures {u = tt} in
    let within : c.in-Ok.count ≤ length c.build_board.new.room =
    omega (arith, told.room, c.build_board.ensures.len) in (
      λ e. absurd (omega (arith, e)),
      λ short. absurd (omega (
        arith,
        short.1,
        told.room,
        whole_length _ c.in-Ok.count c.build_board.new.room told.built within,
      )),
    )
